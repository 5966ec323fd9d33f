-- What is done at a client's seat: which entries and ends it shows, and what it does to the line.
use Rattle.std.proofs.Common.{◌≡◌, ℕ, ◌+◌, Bool, true, false, cond, eqb, ltb, List, [], ◌∷◌, Some, None, Option, Ok, Err, Result, refl, ap, ◌∙◌}
use Rattle.std.proofs.lemmas.Bool.{cond_both}
use Rattle.map.specs.declared.DataMark.{DataMark}
use Rattle.map.specs.Map.{limit}
use Rattle.message.specs.Events.{EventModel, sendable}
use Rattle.wire.specs.Line.{Line, write_answer, written, with_event}
use Rattle.wire.specs.declared.answers.WriteError.{WriteError}
use Rattle.wire.specs.declared.answers.WriteError.TheVariants.{Refused, BadSize}
use Rattle.backend.specs.declared.ids.ClientId.{ClientId}
use Rattle.backend.specs.declared.ids.ObjectId.{ObjectId}
use Rattle.backend.specs.declared.client.DisconnectReason.{DisconnectReason}
use Rattle.backend.specs.declared.client.End.{End}
use Rattle.backend.specs.declared.registry.Global.{Global}
use Rattle.backend.specs.Events.{error_event, delete_id, global_event}
use Rattle.backend.specs.Texts.{name_in}
use Rattle.backend.specs.World.{Terms, is_live}
use Rattle.backend.specs.Acts.{Act, flushed, Seat, heard, offer, tell, flush, kill, fail, enter, fresh, draw, remove, end}
use Rattle.backend.specs.Registries.{visible, announce, announce_all}
use Rattle.accounts.specs.Accounts.{entries_in, ends_in}
use Rattle.accounts.specs.Tied.{done_to}

-- the line after all acts
abbrev pub replay : List Act → Line → Line
replay [] l = l
replay (a ∷ as') l = done_to a (replay as' l)

pub record Ties (l : Line) (es : List ObjectId) (ns : List End) (s : Seat) : Type 0 where
  pub entries_are : entries_in s.acts ≡ es
  pub ends_are : ends_in s.acts ≡ ns
  pub line_is : s.line ≡ replay s.acts l

-- a write does to the line what it is said to have done
written_is : (e : EventModel) (l : Line) → written e l ≡ done_to (heard (write_answer e l) e) l
written_is e l = go (eqb l.allowance 0) (sendable e)
  where
    go : (a b : Bool) → cond a l (cond b (with_event e l) l) ≡ done_to (heard (cond a (Err Refused) (cond b (Ok tt) (Err BadSize))) e) l
    go true b = refl
    go false true = refl
    go false false = refl

heard_entries : (w : Result (Unit {0}) WriteError) (e : EventModel) (as' : List Act) → entries_in (heard w e ∷ as') ≡ entries_in as'
heard_entries (Ok u) e as' = refl
heard_entries (Err r) e as' = refl

heard_ends : (w : Result (Unit {0}) WriteError) (e : EventModel) (as' : List Act) → ends_in (heard w e ∷ as') ≡ ends_in as'
heard_ends (Ok u) e as' = refl
heard_ends (Err r) e as' = refl

module _ {l : Line} {es : List ObjectId} {ns : List End} where
  pub offer_ties : (e : EventModel) (s : Seat) → Ties l es ns s → Ties l es ns (offer e s)
  offer_ties e s g = record {
    entries_are = heard_entries (write_answer e s.line) e s.acts ∙ g.entries_are;
    ends_are = heard_ends (write_answer e s.line) e s.acts ∙ g.ends_are;
    line_is = written_is e s.line ∙ ap (done_to (heard (write_answer e s.line) e)) g.line_is;
  }

  pub tell_ties : (e : EventModel) (s : Seat) → Ties l es ns s → Ties l es ns (tell e s)
  tell_ties e s g = cond_both (is_live s.client.state) (offer e s) s (λ (q : Seat). Ties l es ns q) (λ _. offer_ties e s g) (λ _. g)

  pub flush_ties : (s : Seat) → Ties l es ns s → Ties l es ns (flush s)
  flush_ties s g = record { entries_are = g.entries_are; ends_are = g.ends_are; line_is = ap (λ (x : Line). done_to flushed x) g.line_is }

  pub kill_ties : (r : DisconnectReason) (s : Seat) → Ties l es ns s → Ties l es ns (kill r s)
  kill_ties r s g = record { entries_are = g.entries_are; ends_are = g.ends_are; line_is = g.line_is }

  pub fail_ties : (code object row : ℕ) (text : List ℕ) (s : Seat) → Ties l es ns s → Ties l es ns (fail code object row text s)
  fail_ties code object row text s g = kill_ties _ _ (flush_ties _ (tell_ties (error_event object code text) s g))

  pub draw_ties : (s : Seat) → Ties l es ns s → Ties l es ns (draw s)
  draw_ties s g = record { entries_are = g.entries_are; ends_are = g.ends_are; line_is = g.line_is }

  pub enter_ties : (c : ClientId) (id row version : ℕ) (mark : DataMark) (s : Seat) → Ties l es ns s → Ties l (fresh c id row s.client ∷ es) ns (enter c id row version mark s)
  enter_ties c id row version mark s g = record { entries_are = ap (λ (xs : List ObjectId). fresh c id row s.client ∷ xs) g.entries_are; ends_are = g.ends_are; line_is = g.line_is }

  pub remove_ties : (x : ObjectId) (mark : DataMark) (s : Seat) → Ties l es ns s → Ties l es (record { object = x; mark = mark } ∷ ns) (remove x mark s)
  remove_ties x mark s g = record { entries_are = g.entries_are; ends_are = ap (λ (xs : List End). record { object = x; mark = mark } ∷ xs) g.ends_are; line_is = g.line_is }

  pub end_ties : (x : ObjectId) (mark : DataMark) (s : Seat) → Ties l es ns s → Ties l es (record { object = x; mark = mark } ∷ ns) (end x mark s)
  end_ties x mark s g =
      remove_ties x mark (cond (ltb x.id limit) (offer (delete_id x.id) s) s)
      (cond_both (ltb x.id limit) (offer (delete_id x.id) s) s (λ (q : Seat). Ties l es ns q) (λ _. offer_ties (delete_id x.id) s g) (λ _. g))

  pub announce_ties : (t : Terms) (x : ObjectId) (name : ℕ) (g : Global) (s : Seat) → Ties l es ns s → Ties l es ns (announce t x name g s)
  announce_ties t x name g s k =
      cond_both (visible t x.client s.client name g) _ _ (λ (q : Seat). Ties l es ns q) (λ _. tell_ties (global_event x.id name (name_in t.rows g.row) g.version) s k) (λ _. k)

  pub announce_all_ties : (t : Terms) (x : ObjectId) (name : ℕ) (gs : List (Option Global)) (s : Seat) → Ties l es ns s → Ties l es ns (announce_all t x name gs s)
  announce_all_ties t x name [] s k = k
  announce_all_ties t x name (None ∷ gs) s k = announce_all_ties t x (name + 1) gs s k
  announce_all_ties t x name (Some g ∷ gs) s k =
      announce_all_ties t x (name + 1) gs (cond g.disabled s (announce t x name g s))
      (cond_both g.disabled s (announce t x name g s) (λ (q : Seat). Ties l es ns q) (λ _. k) (λ _. announce_ties t x name g s k))
