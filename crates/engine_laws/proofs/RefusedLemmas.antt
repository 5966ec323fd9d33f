-- A refused call changes nothing.
use Rattle.std.proofs.Common.{◌≡◌, Some, None, Ok, Err, Option, Result, refl}
use Rattle.std.proofs.lemmas.Bool.{cond_both}
use Rattle.protocol.specs.declared.refusal.Refusal.{Refusal}
use Rattle.backend.specs.declared.ids.ClientId.{ClientId}
use Rattle.backend.specs.declared.client.Client.{Client}
use Rattle.backend.specs.declared.ticket.Outstanding.TheVariants as out
use Rattle.backend.specs.Tickets.{same_ticket}
use Rattle.backend.specs.World.{Terms, World}
use Rattle.backend.specs.Acts.{from}
use Rattle.backend.specs.Requests.{Buffers}
use Rattle.backend.specs.Checks.{the_client, the_owned, the_global}
use Rattle.backend.specs.Calls.{Done, admit_check, step_check, step_act, create_check, destroy_check, send_check, post_check, kill_check, add_check}
use Rattle.backend.specs.Perform.{Call, admit, step, settle_plain, settle_making, create, destroy, send, look, set, find, next, post, kill, add, disable, remove, flush, tidy, Answer, admitted, stepped, created, destroyed, sent, looked, changed, found, found_next, posted, killed, added, disabled, removed, flushed, Outcome, checked, perform, buffers_in, buffers_after}
use Rattle.engine_laws.specs.Refused.{refusal_of, RefusalsChangeNothing}

no_refusal : {X : Type 0} (e : Refusal) → ◌≡◌ {A = Option Refusal} None (Some e) → X
no_refusal e q = cc

-- an outcome that is a refusal leaves the world
abbrev Leaves : World → Outcome → Type 0
Leaves w o = (e : Refusal) → refusal_of o.answer ≡ Some e → o.run ≡ from w

checked_leaves : {P A : Type 0} (w : World) (says : Result A Refusal → Answer) → ((a : A) → refusal_of (says (Ok a)) ≡ None) → (r : Result P Refusal) (act : P → Done A) → Leaves w (checked says r w act)
checked_leaves w says none (Err x) act e q = refl
checked_leaves w says none (Ok p) act e q = let n = none (act p).value in no_refusal e (cc)

world_is_left : (t : Terms) (c : Call) (w : World) → Leaves w (perform t c w)
world_is_left t (admit d) w = checked_leaves w admitted (λ a. refl) (admit_check w) _
world_is_left t (step c b) w = checked_leaves w stepped (λ a. refl) (step_check c b w) _
world_is_left t (settle_plain x) w = cond_both (same_ticket w.engine.outstanding (out.Plain x.request)) _ _ (Leaves w) (λ _ e q. no_refusal e q) (λ _ e q. refl)
world_is_left t (settle_making x d) w = cond_both (same_ticket w.engine.outstanding (out.Making x.request)) _ _ (Leaves w) (λ _ e q. no_refusal e q) (λ _ e q. refl)
world_is_left t (create c row version d) w = checked_leaves w created (λ a. refl) (create_check t c row w) _
world_is_left t (destroy x) w = checked_leaves w destroyed (λ a. refl) (destroy_check x w) _
world_is_left t (send x opcode as') w = checked_leaves w sent (λ a. refl) (send_check t x opcode as' w) _
world_is_left t (look x) w = checked_leaves w looked (λ a. refl) (the_owned w x) _
world_is_left t (set x d) w = checked_leaves w changed (λ a. refl) (the_owned w x) _
world_is_left t (find c id) w = checked_leaves w found (λ a. refl) (the_client w c) _
world_is_left t (next c id) w = checked_leaves w found_next (λ a. refl) (the_client w c) _
world_is_left t (post x code text) w = checked_leaves w posted (λ a. refl) (post_check x text w) _
world_is_left t (kill c r) w = checked_leaves w killed (λ a. refl) (kill_check t c r w) _
world_is_left t (add row version handler) w = checked_leaves w added (λ a. refl) (add_check t row version w) _
world_is_left t (disable i) w = checked_leaves w disabled (λ a. refl) (the_global w i) _
world_is_left t (remove i) w = checked_leaves w removed (λ a. refl) (the_global w i) _
world_is_left t (flush c) w = checked_leaves w flushed (λ a. refl) (the_client w c) _
world_is_left t tidy w = λ e q. no_refusal e q

buffers_are_left : (t : Terms) (c : ClientId) (b : Buffers) (w : World) (e : Refusal) → refusal_of (perform t (step c b) w).answer ≡ Some e → buffers_after t c b w ≡ b
buffers_are_left t c b w e q = go (step_check c b w) q
  where
    go : (r : Result Client Refusal) → refusal_of (checked stepped r w (step_act t c b w)).answer ≡ Some e → buffers_in t c b w r ≡ b
    go (Err x) q = refl
    go (Ok k) q = no_refusal e q

pub refusals_change_nothing : RefusalsChangeNothing
refusals_change_nothing = record { world = world_is_left; buffers = buffers_are_left }
