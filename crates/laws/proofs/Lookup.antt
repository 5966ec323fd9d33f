-- When a name names an object, before and after the operations.
use Rattle.std.proofs.Common.{◌≡◌, ℕ, ◌≢◌, Some, None, Ok, Err, Option, Result, sym, refl, ap, ◌∙◌, arith}
use Rattle.std.proofs.lemmas.Bool.Decides.{nat_tests}
use Rattle.map.specs.declared.DataMark.{DataMark}
use Rattle.map.specs.declared.fault.InvalidId.{InvalidId}
use Rattle.map.specs.declared.LocalId.{LocalId}
use Rattle.map.specs.declared.fault.MapFault.{MapFault}
use Rattle.map.specs.declared.Object.{Object}
use Rattle.map.specs.declared.ObjectData.{ObjectData}
use Rattle.map.specs.declared.ObjectMap.{ObjectMap}
use Rattle.map.specs.Map.{find_in, put_at, removed, inserted, insert_answer, invalid, with_data, data_over, data_after}
use Rattle.map.specs.Named.{agreeing, lookup_in, with_mark, answer_for, mark_answer, mark_over, mark_after}
use Rattle.laws.specs.LookupLaws.{Names}
use Rattle.laws.proofs.Find.{entered_found, entered_refused, removed_none, put_found, put_others}

module _ (m : ObjectMap ObjectData) (name : LocalId) where
  answered_at : (o : Object ObjectData) (f : Option (Object ObjectData)) → find_in m name.id ≡ f → agreeing f name ≡ Ok o → Names m name o
  answered_at o None l e = let z : ◌≡◌ {A = ℕ} 0 1 = cc in absurd (omega arith)
  answered_at o (Some p) l e =
      let s : p.«data».serial ≡ name.serial = grind (arith, nat_tests) in
      let r : p.row ≡ name.row = grind (arith, nat_tests) in
      let q : p ≡ o = grind (arith, nat_tests) in
      record { live = l ∙ ap Some q; serial_agrees = ap (λ (x : Object ObjectData). x.«data».serial) (sym q) ∙ s; row_agrees = ap (λ (x : Object ObjectData). x.row) (sym q) ∙ r }

  pub answered : (o : Object ObjectData) → lookup_in m name ≡ Ok o → Names m name o
  answered o e = answered_at o _ refl e

  -- an object with the serial and the row of the name agrees with it
  agrees : (o : Object ObjectData) → o.«data».serial ≡ name.serial → o.row ≡ name.row → agreeing (Some o) name ≡ Ok o
  agrees o s r = grind (arith, nat_tests)

  -- an object with another serial does not
  disagrees : (o : Object ObjectData) → o.«data».serial ≢ name.serial → agreeing (Some o) name ≡ Err invalid
  disagrees o s = grind (arith, nat_tests)

  pub answers : (o : Object ObjectData) → Names m name o → lookup_in m name ≡ Ok o
  answers o n = ap (λ (f : Option (Object ObjectData)). agreeing f name) n.live ∙ agrees o n.serial_agrees n.row_agrees

  pub ended : lookup_in (removed m name.id) name ≡ Err invalid
  ended = ap (λ (f : Option (Object ObjectData)). agreeing f name) (removed_none m name.id)

  stale_at : (o : Object ObjectData) (r : Result (Unit {0}) MapFault) → insert_answer (removed m name.id) name.id ≡ r → o.«data».serial ≢ name.serial → lookup_in (inserted (removed m name.id) name.id o) name ≡ Err invalid
  stale_at o (Ok tt) e h =
      ap (λ (f : Option (Object ObjectData)). agreeing f name) (entered_found (removed m name.id) name.id o e) ∙ disagrees o h
  stale_at o (Err f) e h =
      ap (λ (n : ObjectMap ObjectData). lookup_in n name) (entered_refused (removed m name.id) name.id o f e) ∙ ended

  pub stale : (o : Object ObjectData) → o.«data».serial ≢ name.serial → lookup_in (inserted (removed m name.id) name.id o) name ≡ Err invalid
  stale o h = stale_at o _ refl h

module _ (m : ObjectMap ObjectData) (name : LocalId) where
  -- the map after a change of the mark, where the name names an object
  after : (o : Object ObjectData) (mark : DataMark) → lookup_in m name ≡ Ok o → mark_after m name mark ≡ put_at m name.id (Some (with_mark o mark))
  after o mark e = ap (λ (r : Result (Object ObjectData) InvalidId). mark_over r m name mark) e

  pub marked : (o : Object ObjectData) (mark : DataMark) → lookup_in m name ≡ Ok o → (mark_answer m name ≡ Ok tt) × (lookup_in (mark_after m name mark) name ≡ Ok (with_mark o mark))
  marked o mark e =
      let n = answered m name o e in
      let f : find_in (mark_after m name mark) name.id ≡ Some (with_mark o mark)
      = ap (λ (x : ObjectMap ObjectData). find_in x name.id) (after o mark e) ∙ put_found m name.id (with_mark o mark) o n.live in
      (ap answer_for e, ap (λ (x : Option (Object ObjectData)). agreeing x name) f ∙ agrees m name (with_mark o mark) n.serial_agrees n.row_agrees)

  others_at : (r : Result (Object ObjectData) InvalidId) (k : ℕ) (mark : DataMark) → k ≢ name.id → find_in (mark_over r m name mark) k ≡ find_in m k
  others_at (Ok o) k mark h = put_others m name.id k (Some (with_mark o mark)) h
  others_at (Err e) k mark h = refl

  pub marked_others : (k : ℕ) (mark : DataMark) → k ≢ name.id → find_in (mark_after m name mark) k ≡ find_in m k
  marked_others k mark h = others_at (lookup_in m name) k mark h

  pub marked_refused : (mark : DataMark) (e : InvalidId) → lookup_in m name ≡ Err e → (mark_answer m name ≡ Err e) × (mark_after m name mark ≡ m)
  marked_refused mark e q = (ap answer_for q, ap (λ (r : Result (Object ObjectData) InvalidId). mark_over r m name mark) q)

  pub marked_data : (o : Object ObjectData) (mark : DataMark) → lookup_in m name ≡ Ok o → mark_after m name mark ≡ data_after m name.id (record { serial = name.serial; mark = mark })
  marked_data o mark e =
      let n = answered m name o e in
      let d : data_after m name.id (record { serial = name.serial; mark = mark }) ≡ put_at m name.id (Some (with_data o (record { serial = name.serial; mark = mark })))
      = ap (λ (f : Option (Object ObjectData)). data_over f m name.id (record { serial = name.serial; mark = mark })) n.live in
      let s : put_at m name.id (Some (with_mark o mark)) ≡ put_at m name.id (Some (with_data o (record { serial = name.serial; mark = mark })))
      = ap (λ (k : ℕ). put_at m name.id (Some (with_data o (record { serial = k; mark = mark })))) n.serial_agrees in
      after o mark e ∙ s ∙ sym d
