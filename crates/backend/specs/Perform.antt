-- The eighteen calls, their answers, and what each call means.
use Rattle.std.specs.Prelude.{ℕ, cond, List, Ok, Err, Option, Result}
use Rattle.protocol.specs.declared.refusal.Refusal.{Refusal}
use Rattle.backend.specs.declared.ids.ClientId.{ClientId}
use Rattle.backend.specs.declared.ids.ObjectId.{ObjectId}
use Rattle.backend.specs.declared.ids.GlobalId.{GlobalId}
use Rattle.backend.specs.declared.client.DisconnectReason.{DisconnectReason}
use Rattle.backend.specs.declared.client.Client.{Client}
use Rattle.backend.specs.declared.client.End.{End}
use Rattle.backend.specs.declared.ticket.Outstanding.TheVariants as out
use Rattle.backend.specs.declared.answers.StepAnswer.{StepAnswer}
use Rattle.backend.specs.declared.answers.SettledMaking.{SettledMaking}
use Rattle.backend.specs.declared.answers.SendAnswer.{SendAnswer}
use Rattle.backend.specs.declared.answers.ObjectInfo.{ObjectInfo}
use Rattle.backend.specs.declared.answers.KillAnswer.{KillAnswer}
use Rattle.backend.specs.declared.answers.DisableAnswer.{DisableAnswer}
use Rattle.backend.specs.declared.answers.TidyAnswer.{TidyAnswer}
use Rattle.backend.specs.Tickets.{PlainTicket, MakingTicket, same_ticket}
use Rattle.backend.specs.World.{Terms, World}
use Rattle.backend.specs.Acts.{Run, from}
use Rattle.backend.specs.Requests.{Buffers}
use Rattle.backend.specs.Checks.{the_client, the_owned, the_global}
use Rattle.backend.specs.Sending.{SendArgument}
use Rattle.backend.specs.Calls.{Done, done, admit_check, admit_act, step_check, step_of, step_act, plain_act, making_act, create_check, create_act, destroy_check, destroy_act, send_check, send_act, info_of, set_act, handle_at, next_handle, post_check, post_act, kill_check, kill_act, add_check, add_act, disable_act, remove_act, flush_act, tidy_done}

-- a call, with what it is given
pub data Call : Type 0 where
  -- the server's number for the client
  admit : ℕ → Call
  step : ClientId → Buffers → Call
  settle_plain : PlainTicket → Call
  -- the number that the child gets for data
  settle_making : MakingTicket → ℕ → Call
  -- row, version and data number
  create : ClientId → ℕ → ℕ → ℕ → Call
  destroy : ObjectId → Call
  -- sender, opcode and arguments
  send : ObjectId → ℕ → List SendArgument → Call
  look : ObjectId → Call
  set : ObjectId → ℕ → Call
  find : ClientId → ℕ → Call
  next : ClientId → ℕ → Call
  -- the object, the code and the text
  post : ObjectId → ℕ → List ℕ → Call
  kill : ClientId → DisconnectReason → Call
  -- row, version and handler
  add : ℕ → ℕ → ℕ → Call
  disable : GlobalId → Call
  remove : GlobalId → Call
  flush : ClientId → Call
  tidy : Call

-- the answer of each call
pub data Answer : Type 0 where
  admitted : Result ClientId Refusal → Answer
  stepped : Result StepAnswer Refusal → Answer
  -- a ticket that is not the one outstanding comes back, which is refusal 18
  settled_plain : Result (Option End) PlainTicket → Answer
  settled_making : Result SettledMaking MakingTicket → Answer
  created : Result ObjectId Refusal → Answer
  destroyed : Result End Refusal → Answer
  sent : Result SendAnswer Refusal → Answer
  looked : Result ObjectInfo Refusal → Answer
  changed : Result (Unit {0}) Refusal → Answer
  found : Result (Option ObjectId) Refusal → Answer
  found_next : Result (Option ObjectId) Refusal → Answer
  posted : Result KillAnswer Refusal → Answer
  killed : Result KillAnswer Refusal → Answer
  added : Result GlobalId Refusal → Answer
  disabled : Result DisableAnswer Refusal → Answer
  removed : Result (Unit {0}) Refusal → Answer
  flushed : Result ℕ Refusal → Answer
  tidied : TidyAnswer → Answer

-- what a call answers, and what it did
pub record Outcome : Type 0 where
  pub answer : Answer
  pub run : Run

-- a refusal leaves the world, and a call that is not refused does what it does
abbrev pub checked : {P A : Type 0} → (Result A Refusal → Answer) → Result P Refusal → World → (P → Done A) → Outcome
checked says (Err e) w act = record { answer = says (Err e); run = from w }
checked says (Ok p) w act = record { answer = says (Ok (act p).value); run = (act p).run }

-- a call that changes nothing
abbrev pub told : {P A : Type 0} → (Result A Refusal → Answer) → Result P Refusal → World → (P → A) → Outcome
told says r w f = checked says r w (λ p. done (f p) (from w))

-- a settle: the ticket must be the one outstanding
abbrev pub settled_by : {A T : Type 0} → (Result A T → Answer) → T → World → Done A → Outcome
settled_by says t w d = record { answer = says (Ok d.value); run = d.run }

-- a ticket that is not the one outstanding comes back
abbrev pub returned : {A T : Type 0} → (Result A T → Answer) → T → World → Outcome
returned says t w = record { answer = says (Err t); run = from w }

-- what each call means
abbrev pub perform : Terms → Call → World → Outcome
perform t (admit d) w = checked admitted (admit_check w) w (admit_act d w)
perform t (step c b) w = checked stepped (step_check c b w) w (step_act t c b w)
perform t (settle_plain x) w =
    cond (same_ticket w.engine.outstanding (out.Plain x.request)) (settled_by settled_plain x w (plain_act x.request w)) (returned settled_plain x w)
perform t (settle_making x d) w =
    cond (same_ticket w.engine.outstanding (out.Making x.request)) (settled_by settled_making x w (making_act x.request.origin x.request.child d w)) (returned settled_making x w)
perform t (create c row version d) w = checked created (create_check t c row w) w (create_act c row version d w)
perform t (destroy x) w = checked destroyed (destroy_check x w) w (destroy_act x w)
perform t (send x opcode as') w = checked sent (send_check t x opcode as' w) w (send_act x opcode as' w)
perform t (look x) w = told looked (the_owned w x) w info_of
perform t (set x d) w = checked changed (the_owned w x) w (set_act x d w)
perform t (find c id) w = told found (the_client w c) w (λ k. handle_at c k id)
perform t (next c id) w = told found_next (the_client w c) w (λ k. next_handle c k id)
perform t (post x code text) w = checked posted (post_check x text w) w (post_act x code text w)
perform t (kill c r) w = checked killed (kill_check t c r w) w (kill_act c r w)
perform t (add row version handler) w = checked added (add_check t row version w) w (add_act t row version handler w)
perform t (disable i) w = checked disabled (the_global w i) w (disable_act i w)
perform t (remove i) w = checked removed (the_global w i) w (remove_act i w)
perform t (flush c) w = checked flushed (the_client w c) w (flush_act c w)
perform t tidy w = record { answer = tidied (tidy_done w).value; run = (tidy_done w).run }

-- the buffers of a step after it: a refusal leaves them
abbrev pub buffers_in : Terms → ClientId → Buffers → World → Result Client Refusal → Buffers
buffers_in t c b w (Err e) = b
buffers_in t c b w (Ok k) = (step_of t c b w k).buffers

-- the buffers of a step after it
abbrev pub buffers_after : Terms → ClientId → Buffers → World → Buffers
buffers_after t c b w = buffers_in t c b w (step_check c b w)
