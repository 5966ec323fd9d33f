-- Every history keeps its accounts: what is kept along it, call by call, and the accounts from that.
use Rattle.std.proofs.Common.{◌≡◌, ℕ, zero, suc, ◌<◌, ◌≤◌, List, [], length, replicate, None, Ok, Err, Option, Result, sym, refl, ap, subst, arith}
use Rattle.std.proofs.lemmas.Bool.{cond_both}
use Rattle.places.specs.Places.{at}
use Rattle.protocol.specs.Lawful.{Lawful}
use Rattle.protocol.specs.declared.refusal.Refusal.{Refusal}
use Rattle.wire.specs.Line.{Line}
use Rattle.backend.specs.declared.ids.ClientId.{ClientId}
use Rattle.backend.specs.declared.client.Client.{Client}
use Rattle.backend.specs.declared.ticket.Outstanding.TheVariants as out
use Rattle.backend.specs.Tickets.{same_ticket}
use Rattle.backend.specs.World.{Terms, World, new_engine, named, client_at}
use Rattle.backend.specs.Acts.{Deed}
use Rattle.backend.specs.Requests.{Buffers}
use Rattle.backend.specs.Checks.{the_client, the_owned, the_global}
use Rattle.backend.specs.Calls.{step_check, step_act, admit_check, admit_act, create_check, create_act, destroy_check, destroy_act, send_check, send_act, set_act, post_check, post_act, kill_check, kill_act, add_check, add_act, disable_act, remove_act, flush_act}
use Rattle.backend.specs.Perform.{Call, admit, step, settle_plain, settle_making, create, destroy, send, look, set, find, next, post, kill, add, disable, remove, flush, tidy, admitted, stepped, created, destroyed, sent, looked, changed, found, found_next, posted, killed, added, disabled, removed, flushed, checked, perform}
use Rattle.accounts.specs.Histories.{History, Leads, begins, gains, breaks, calls, deeds}
use Rattle.accounts.specs.Shown.{ticket_of, child_of, ticket_given, Paper, papers}
use Rattle.accounts.specs.Accounts.{Paired, none_out, entry, nothing}
use Rattle.accounts.proofs.Books.{Books, no_books, not_vacant}
use Rattle.accounts.proofs.Turns.{Turns}
use Rattle.accounts.proofs.Kept.{Kept, apart_from}
use Rattle.accounts.proofs.Same.{same_ticket_is}
use Rattle.accounts.proofs.Calls.{
  After,
  calm,
  still,
  checked_good,
  admit_good,
  create_good,
  destroy_good,
  mark_good_in,
  send_good,
  post_good,
  kill_good,
  add_good,
  disable_good,
  remove_good_in,
  flush_good_in,
  tidy_good,
  step_good,
  plain_good,
  making_good,
}
use Rattle.accounts.proofs.Checked.{the_owned_lem}

module _ (t : Terms) (lawful : Lawful t.rows) (n : ℕ) (ds : List Deed) (w : World) (ps : List Paper) (k : Kept (child_of (ticket_of w.engine.outstanding)) n ds w)
    (pd : Paired ps (ticket_of w.engine.outstanding)) (h : n < 4294967295) where
  stepping : (c : ClientId) (b : Buffers) (r : Result Client Refusal) → step_check c b w ≡ r → After None n ds ps (checked stepped r w (step_act t c b w))
  stepping c b (Err e) q = calm t lawful n ds w ps k pd h None _ refl (still t lawful n ds w ps k pd h)
  stepping c b (Ok a) q = step_good t lawful n ds w ps k pd h c b a q

  -- whatever the call, the accounts are kept
  pub performs : (c : Call) → After (ticket_given c) n ds ps (perform t c w)
  performs (admit d) = checked_good t lawful n ds w ps k pd h admitted (λ r. refl) (admit_check w) (admit_act d w) (admit_good t lawful n ds w ps k pd h d)
  performs (step c b) = stepping c b (step_check c b w) refl
  performs (settle_plain x) =
      cond_both (same_ticket w.engine.outstanding (out.Plain x.request)) _ _ (After (ticket_given (settle_plain x)) n ds ps)
      (λ e. plain_good t lawful n ds w ps k pd h x (same_ticket_is w.engine.outstanding (out.Plain x.request) e)) (λ _. calm t lawful n ds w ps k pd h _ _ refl (still t lawful n ds w ps k pd h))
  performs (settle_making x d) =
      cond_both (same_ticket w.engine.outstanding (out.Making x.request)) _ _ (After (ticket_given (settle_making x d)) n ds ps)
      (λ e. making_good t lawful n ds w ps k pd h x d (same_ticket_is w.engine.outstanding (out.Making x.request) e)) (λ _. calm t lawful n ds w ps k pd h _ _ refl (still t lawful n ds w ps k pd h))
  performs (create c row version d) =
      checked_good t lawful n ds w ps k pd h created (λ r. refl) (create_check t c row w) (create_act c row version d w) (create_good t lawful n ds w ps k pd h c row version d)
  performs (destroy x) = checked_good t lawful n ds w ps k pd h destroyed (λ r. refl) (destroy_check x w) (destroy_act x w) (destroy_good t lawful n ds w ps k pd h x)
  performs (send x opcode as') =
      checked_good t lawful n ds w ps k pd h sent (λ r. refl) (send_check t x opcode as' w) (send_act x opcode as' w) (send_good t lawful n ds w ps k pd h x opcode as')
  performs (look x) = checked_good t lawful n ds w ps k pd h looked (λ r. refl) (the_owned w x) _ (λ p e. still t lawful n ds w ps k pd h)
  performs (set x d) = checked_good t lawful n ds w ps k pd h changed (λ r. refl) (the_owned w x) (set_act x d w) (λ o e. mark_good_in t lawful n ds w ps k pd h x d o (the_owned_lem w x o e))
  performs (find c id) = checked_good t lawful n ds w ps k pd h found (λ r. refl) (the_client w c) _ (λ p e. still t lawful n ds w ps k pd h)
  performs (next c id) = checked_good t lawful n ds w ps k pd h found_next (λ r. refl) (the_client w c) _ (λ p e. still t lawful n ds w ps k pd h)
  performs (post x code text) = checked_good t lawful n ds w ps k pd h posted (λ r. refl) (post_check x text w) (post_act x code text w) (post_good t lawful n ds w ps k pd h x code text)
  performs (kill c r) = checked_good t lawful n ds w ps k pd h killed (λ r. refl) (kill_check t c r w) (kill_act c r w) (kill_good t lawful n ds w ps k pd h c r)
  performs (add row version handler) =
      checked_good t lawful n ds w ps k pd h added (λ r. refl) (add_check t row version w) (add_act t row version handler w) (λ p e. add_good t lawful n ds w ps k pd h row version handler p)
  performs (disable i) = checked_good t lawful n ds w ps k pd h disabled (λ r. refl) (the_global w i) (disable_act i w) (λ g e. disable_good t lawful n ds w ps k pd h i g)
  performs (remove i) = checked_good t lawful n ds w ps k pd h removed (λ r. refl) (the_global w i) (remove_act i w) (λ g e. remove_good_in t lawful n ds w ps k pd h i g)
  performs (flush c) = checked_good t lawful n ds w ps k pd h flushed (λ r. refl) (the_client w c) (flush_act c w) (flush_good_in t lawful n ds w ps k pd h c)
  performs tidy = calm t lawful n ds w ps k pd h None _ refl (tidy_good t lawful n ds w ps k pd h)

-- At the beginning there is nobody.

empty_at : {A : Type 0} (m i : ℕ) → at (replicate {A = Option A} m None) i ≡ None
empty_at zero i = refl
empty_at (suc m) zero = refl
empty_at (suc m) (suc i) = empty_at m i

nobody : (lines : ℕ → Line) (c : ClientId) → client_at (record { engine = new_engine; lines = lines }) c ≡ None
nobody lines c = ap (named c) (empty_at 8 c.place)

pub record Holds (h : History) (w : World) : Type 0 where
  pub kept : Kept (child_of (ticket_of w.engine.outstanding)) (length h) (deeds h) w
  pub paired : Paired (papers h) (ticket_of w.engine.outstanding)

pub holds : (t : Terms) → Lawful t.rows → {h : History} {w : World} → Leads t h w → length h ≤ 4294967295 → Holds h w
holds t lawful (begins lines) le = record {
  kept = record {
    few = omega arith;
    clients_old = λ c k e. absurd (not_vacant _ k e (nobody lines c));
    untouched = λ c lt. refl;
    counted = λ i lt. empty_at 8 i;
    books = λ c. subst (λ (v : Option Client). Books c 0 [] v) (sym (nobody lines c)) (no_books c 0);
    turns = λ c. subst (λ (v : Option Client). Turns [] v) (sym (nobody lines c)) (λ u i below. (entry, nothing));
    waits = λ c k e. absurd (not_vacant _ k e (nobody lines c));
    roll = tt;
    sender = tt;
  };
  paired = none_out;
}
holds t lawful (gains {h} {w} p more r) le =
    let q = holds t lawful r le in
    record { kept = apart_from _ w.engine.registry w.engine.outstanding q.kept.roll q.kept.sender q.kept; paired = q.paired }
holds t lawful (breaks {h} {w} p r) le =
    let q = holds t lawful r le in
    record { kept = apart_from _ w.engine.registry w.engine.outstanding q.kept.roll q.kept.sender q.kept; paired = q.paired }
holds t lawful (calls {h} {w} c r) le =
    let q = holds t lawful r (omega arith) in
    let g = performs t lawful (length h) (deeds h) w (papers h) q.kept q.paired (omega arith) c in
    record { kept = g.kept; paired = g.paired }
