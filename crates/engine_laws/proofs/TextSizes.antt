-- How long each error's text is, and that it has no zero byte.
use Rattle.std.proofs.Common.{◌≡◌, ℕ, suc, ◌+◌, ◌^◌, ◌<◌, ◌≤◌, true, ◌&&◌, ltb, leb, List, [], ◌∷◌, ◌++◌, length, take, map, Some, None, Option, sym, refl, ap, ◌∙◌, subst, codes, decimal, arith}
use Rattle.std.proofs.lemmas.Bool.{cond_both, and_from, lt-ltb, leb-true, and_parts}
use Rattle.std.proofs.lemmas.List.{length-append, length-take}
use Rattle.std.proofs.lemmas.List.Folds.{list_all-append}
use Rattle.std.proofs.lemmas.Fmt.{length-decimal-le, decimal_by_steps}
use Rattle.std.specs.List.{slice_get}
use Rattle.std.specs.Option.{option_map}
use Rattle.protocol.specs.Lawful.{Named, Lawful}
use Rattle.protocol.specs.Model.{RowModel, title_of}
use Rattle.protocol.specs.Tallies.{all}
use Rattle.map.specs.declared.fault.MapFault.{MapFault}
use Rattle.map.specs.declared.fault.MapFault.TheVariants as map_fault
use Rattle.backend.specs.Arguments.{entry_text}
use Rattle.backend.specs.Texts.{name_in, name_of, seen, sent, unknown_id, invalid_new_id, unknown_opcode, invalid_method, invalid_binding, invalid_object, invalid_null, no_memory, malformed_request, null_text, null_interface}

-- at most n bytes, none of them zero
pub record Sized (n : ℕ) (text : List ℕ) : Type 0 where
  pub short : length text ≤ n
  pub no_zero : all (λ b. ltb 0 b) text ≡ true

literal : (n : ℕ) (text : List ℕ) → length text ≡ n → all (λ b. ltb 0 b) text ≡ true → Sized n text
literal n text e z = record { short = omega arith; no_zero = z }

looser : {m : ℕ} (n : ℕ) {text : List ℕ} → m ≤ n → Sized m text → Sized n text
looser n le s = record { short = omega (arith, s.short); no_zero = s.no_zero }

infixl 60 ◌then◌
-- one text after another
◌then◌ : {m n : ℕ} {x y : List ℕ} → Sized m x → Sized n y → Sized (m + n) (x ++ y)
◌then◌ {m} {n} {x} {y} a b = record {
  short = omega (arith, length-append x y, a.short, b.short);
  no_zero = list_all-append (λ (i : ℕ). ltb 0 i) x y ∙ and_from (all (λ (i : ℕ). ltb 0 i) x) (all (λ (i : ℕ). ltb 0 i) y) a.no_zero b.no_zero;
}

digit : (n : ℕ) → all (λ (b : ℕ). ltb 0 b) ((48 + n) ∷ []) ≡ true
digit n = and_from (ltb 0 (48 + n)) true (lt-ltb 0 (48 + n) (omega arith)) refl

number : (n : ℕ) → n < 2 ^ 32 → Sized 10 (decimal n)
number n small = record {
  short = length-decimal-le 10 n (omega arith) (omega arith) (omega arith);
  no_zero =
      decimal_by_steps (λ (i : ℕ) (ds : List ℕ). all (λ (b : ℕ). ltb 0 b) ds ≡ true) (λ i lt. digit i)
      (λ i ds le z. list_all-append (λ (b : ℕ). ltb 0 b) ds _ ∙ and_from (all (λ (b : ℕ). ltb 0 b) ds) _ z (digit _)) n (omega arith);
}

each : (text : List ℕ) → ((i b : ℕ) → slice_get text i ≡ Some b → 0 < b) → all (λ (b : ℕ). ltb 0 b) text ≡ true
each [] f = refl
each (x ∷ xs) f = and_from (ltb 0 x) (all (λ (b : ℕ). ltb 0 b) xs) (lt-ltb 0 x (f 0 x refl)) (each xs (λ i b e. f (suc i) b e))

pub name : (text : List ℕ) → Named text → Sized 32 text
name text n = record { short = n.short; no_zero = each text n.no_zero }

pub row_name : (rows : List RowModel) → Lawful rows → (row : ℕ) → Sized 32 (name_in rows row)
row_name rows lawful row = go (slice_get rows row) refl
  where
    go : (r : Option RowModel) → slice_get rows row ≡ r → Sized 32 (name_in rows row)
    go None e = subst (Sized 32) (sym (ap (λ (r : Option RowModel). name_of (option_map title_of r)) e)) (looser 32 (omega arith) (literal 0 [] refl refl))
    go (Some r) e = subst (Sized 32) (sym (ap (λ (q : Option RowModel). name_of (option_map title_of q)) e)) (name r.name (lawful.sound row r e).named)

-- a byte that is seen is not zero
seen_byte : (b : ℕ) → ltb 0 (seen b) ≡ true
seen_byte b = cond_both (leb 32 b && leb b 126) b 63 (λ (x : ℕ). ltb 0 x ≡ true) (λ e. let p = leb-true 32 b (and_parts (leb 32 b) (leb b 126) e).0 in lt-ltb 0 b (omega arith)) (λ _. refl)

all_seen : (text : List ℕ) → all (λ (b : ℕ). ltb 0 b) (map seen text) ≡ true
all_seen [] = refl
all_seen (x ∷ xs) = and_from (ltb 0 (seen x)) (all (λ (b : ℕ). ltb 0 b) (map seen xs)) (seen_byte x) (all_seen xs)

length_seen : (text : List ℕ) → length (map seen text) ≡ length text
length_seen [] = refl
length_seen (x ∷ xs) = ap suc (length_seen xs)

cut : (text : List ℕ) → Sized 64 (sent text)
cut text = record { short = omega (arith, length_seen (take 64 text), length-take 64 text); no_zero = all_seen (take 64 text) }

-- The texts.

abbrev pub Fits : List ℕ → Type 0
Fits = Sized 192

module _ (id : ℕ) (small : id < 2 ^ 32) where
  pub unknown_id_fits : Fits (unknown_id id)
  unknown_id_fits = looser 192 (omega arith) (literal 12 (codes "Unknown id: ") refl refl then number id small then literal 1 (codes ".") refl refl)

  pub invalid_new_id_fits : Fits (invalid_new_id id)
  invalid_new_id_fits = looser 192 (omega arith) (literal 16 (codes "Invalid new_id: ") refl refl then number id small then literal 1 (codes ".") refl refl)

pub no_memory_fits : Fits no_memory
no_memory_fits = looser 192 (omega arith) (literal 10 no_memory refl refl)

pub malformed_fits : Fits malformed_request
malformed_fits = looser 192 (omega arith) (literal 18 malformed_request refl refl)

pub null_text_fits : Fits null_text
null_text_fits = looser 192 (omega arith) (literal 10 null_text refl refl)

pub null_interface_fits : Fits null_interface
null_interface_fits = looser 192 (omega arith) (literal 15 null_interface refl refl)

pub entry_fits : (f : MapFault) (id : ℕ) → id < 2 ^ 32 → Fits (entry_text f id)
entry_fits map_fault.Zero id small = invalid_new_id_fits id small
entry_fits map_fault.Beyond id small = invalid_new_id_fits id small
entry_fits map_fault.Taken id small = invalid_new_id_fits id small
entry_fits map_fault.Full id small = no_memory_fits

pub unknown_opcode_fits : (opcode : ℕ) (interface : List ℕ) → opcode < 2 ^ 32 → Sized 32 interface → Fits (unknown_opcode opcode interface)
unknown_opcode_fits opcode interface small n =
    looser 192 (omega arith)
    (literal 15 (codes "Unknown opcode ") refl refl then number opcode small then literal 15 (codes " for interface ") refl refl then n then literal 1 (codes ".") refl refl)

pub invalid_method_fits : (opcode version since : ℕ) (interface : List ℕ) (id : ℕ) → opcode < 2 ^ 32 → version < 2 ^ 32 → since < 2 ^ 32 → Sized 32 interface → id < 2 ^ 32
    → Fits (invalid_method opcode version since interface id)
invalid_method_fits opcode version since interface id a b c n d =
    looser 192 (omega arith)
    (literal 15 (codes "invalid method ") refl refl then number opcode a then literal 8 (codes " (since ") refl refl then number version b then literal 3 (codes " < ") refl refl then number since c then literal 10 (codes "), object ") refl refl then n then literal 1 (codes "#") refl refl then number id d)

pub invalid_binding_fits : (interface : List ℕ) (version global : ℕ) → version < 2 ^ 32 → global < 2 ^ 32 → Fits (invalid_binding interface version global)
invalid_binding_fits interface version global a b =
    looser 192 (omega arith)
    (literal 19 (codes "Invalid binding of ") refl refl then cut interface then literal 9 (codes " version ") refl refl then number version a then literal 12 (codes " for global ") refl refl then number global b then literal 1 (codes ".") refl refl)

pub invalid_object_fits : (id : ℕ) (interface message expected got : List ℕ) → id < 2 ^ 32 → Sized 32 interface → Sized 32 message → Sized 32 expected → Sized 32 got
    → Fits (invalid_object id interface message expected got)
invalid_object_fits id interface message expected got small a b c d =
    looser 192 (omega arith)
    (literal 15 (codes "Invalid object ") refl refl then number id small then literal 12 (codes " in request ") refl refl then a then literal 1 (codes ".") refl refl then b then literal 11 (codes ": expected ") refl refl then c then literal 9 (codes " but got ") refl refl then d then literal 1 (codes ".") refl refl)

pub invalid_null_fits : (interface message : List ℕ) → Sized 32 interface → Sized 32 message → Fits (invalid_null interface message)
invalid_null_fits interface message a b =
    looser 192 (omega arith)
    (literal 31 (codes "Invalid null object in request ") refl refl then a then literal 1 (codes ".") refl refl then b then literal 1 (codes ".") refl refl)
