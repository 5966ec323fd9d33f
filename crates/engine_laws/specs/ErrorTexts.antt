-- A step that fails tells its client the error, with a text that is short and has no zero byte.
use Rattle.std.specs.Prelude.{◌≡◌, ℕ, ◌^◌, ◌<◌, ◌≤◌, true, ltb, List, [], ◌∷◌, length, take, Some, Ok}
use Rattle.std.specs.List.{AllByRecursion}
use Rattle.map.specs.declared.Object.{Object}
use Rattle.map.specs.declared.ObjectData.{ObjectData}
use Rattle.map.specs.Map.{find_in}
use Rattle.protocol.specs.declared.argument.Argument.{Argument}
use Rattle.protocol.specs.declared.argument.Argument.TheVariants.{Int, Uint, Fixed, Str, Object as ObjectArgument, NewId, Array, Fd}
use Rattle.protocol.specs.declared.argument.ArgumentType.{ArgumentType}
use Rattle.protocol.specs.Lawful.{Lawful}
use Rattle.protocol.specs.Meaning.{request_in}
use Rattle.protocol.specs.Model.{MessageModel}
use Rattle.protocol.specs.Tallies.{all}
use Rattle.message.specs.declared.part.Part.{Part}
use Rattle.message.specs.Events.{EventModel}
use Rattle.queue.specs.Ring.{front}
use Rattle.wire.specs.Line.{Content, Waiting}
use Rattle.backend.specs.declared.ids.ClientId.{ClientId}
use Rattle.backend.specs.declared.client.Client.{Client}
use Rattle.backend.specs.declared.client.ClientState.{ClientState}
use Rattle.backend.specs.declared.client.ClientState.TheVariants.{Untold}
use Rattle.backend.specs.declared.client.DisconnectReason.{DisconnectReason}
use Rattle.backend.specs.declared.client.DisconnectReason.TheVariants.{ConnectionClosed, ProtocolError}
use Rattle.backend.specs.declared.answers.StepError.{StepError}
use Rattle.backend.specs.declared.answers.StepAnswer.TheVariants.{Failed}
use Rattle.backend.specs.World.{Terms, World, client_at}
use Rattle.backend.specs.Events.{error_event}
use Rattle.backend.specs.Faults.{code_of, number_of_error}
use Rattle.backend.specs.Acts.{Act, took, refused, flushed, Run}
use Rattle.backend.specs.Requests.{Buffers}
use Rattle.backend.specs.Perform.{step, stepped, perform, buffers_after}
use Rattle.accounts.specs.Accounts.{acts_of}

-- The numbers that a text may name have 32 bits, as all numbers of requests, objects and catalogues have in the code.

-- the number of an argument that is an unsigned number or an id
abbrev pub number_of : Argument ℕ Part → ℕ
number_of (Int x) = 0
number_of (Uint x) = x
number_of (Fixed x) = 0
number_of (Str x) = 0
number_of (ObjectArgument x) = x
number_of (NewId x) = x
number_of (Array x) = 0
number_of (Fd x) = 0

-- the numbers of a request have 32 bits
pub record NarrowRequest (r : Waiting) : Type 0 where
  pub sender : r.sender < 2 ^ 32
  pub opcode : r.opcode < 2 ^ 32
  pub arguments : (signature : List ArgumentType) (x : Content) → r.content signature ≡ Some x → AllByRecursion (λ a. number_of a < 2 ^ 32) x.arguments

-- those of the catalogue, of the client's objects and of the first request of its line
pub record Narrow (t : Terms) (c : ClientId) (w : World) : Type 0 where
  pub since : (row opcode : ℕ) (m : MessageModel) → request_in t.rows row opcode ≡ Some m → m.since < 2 ^ 32
  pub versions : (k : Client) (id : ℕ) (o : Object ObjectData) → client_at w c ≡ Some k → find_in k.map id ≡ Some o → o.version < 2 ^ 32
  pub request : (r : Waiting) → front (w.lines c.place).requests ≡ Some r → NarrowRequest r

-- an error's text, in the buffer that the caller of the step lent for it
pub record FitsIn (buffer : List ℕ) (e : StepError) : Type 0 where
  -- it has at most 192 bytes, which a buffer for texts has room for
  pub short : e.text ≤ 192
  pub within : e.text ≤ length buffer
  pub no_zero : all (λ b. ltb 0 b) (take e.text buffer) ≡ true

-- Whatever the fault for which a step fails: its text lies in the caller's buffer, has at most 192 bytes, and none of them is zero.
abbrev pub TextsFit : Type 0
TextsFit =
    (t : Terms) → Lawful t.rows → (c : ClientId) (b : Buffers) (w : World) → Narrow t c w → (e : StepError)
    → (perform t (step c b) w).answer ≡ stepped (Ok (Failed e)) → FitsIn (buffers_after t c b w).text e

-- the error of a step that failed, with the text in that buffer: wl_display.error about object 1, the display, with the fault's code
abbrev pub error_told : StepError → List ℕ → EventModel
error_told e buffer = error_event 1 (number_of_error (code_of e.fault)) (take e.text buffer)

-- and what its client is then killed for
abbrev pub blame : StepError → DisconnectReason
blame e = ProtocolError (record { code = number_of_error (code_of e.fault); object = 1; row = 1 })

-- the last that was done to a client: the error was put to its line, and all that waited there was carried away; then it was killed
pub record Closing (c : ClientId) (error : Act) (killed : ClientState) (run : Run) : Type 0 where
  pub acts : (earlier : List Act) × (acts_of c run.deeds ≡ flushed ∷ error ∷ earlier)
  pub carried : (run.world.lines c.place).events ≡ []
  pub state : (k : Client) → client_at run.world c ≡ Some k → k.state ≡ killed

-- what a step that failed does to its client
pub record TellsError (c : ClientId) (e : StepError) (buffer : List ℕ) (before : World) (run : Run) : Type 0 where
  -- where the line took one event more, it took the error, and the client is killed for it
  pub taken : 0 < (before.lines c.place).allowance → Closing c (took (error_told e buffer)) (Untold (blame e)) run
  -- where it took none, the error is lost, and the client is killed as closed
  pub refused : (before.lines c.place).allowance ≡ 0 → Closing c (refused (error_told e buffer)) (Untold ConnectionClosed) run

-- Whatever the fault for which a step fails: the client is told the error, with the very text that lies in the caller's buffer, all
-- that waits is carried to it, and it is killed.
abbrev pub FailuresAreTold : Type 0
FailuresAreTold =
    (t : Terms) → Lawful t.rows → (c : ClientId) (b : Buffers) (w : World) → Narrow t c w → (e : StepError)
    → (perform t (step c b) w).answer ≡ stepped (Ok (Failed e)) → TellsError c e (buffers_after t c b w).text w (perform t (step c b) w).run
