-- What a step does with a request of the display that makes an object.
use Rattle.std.proofs.Common.{◌≡◌, ℕ, true, false, not, ltb, List, [], ◌∷◌, ◌++◌, length, take, Some, None, Option, ap, ◌∙◌, arith}
use Rattle.std.proofs.lemmas.Bool.{cond-false, and_parts, not-true}
use Rattle.std.specs.Prelude.{codes}
use Rattle.std.specs.List.{slice_get}
use Rattle.map.specs.declared.Object.{Object}
use Rattle.map.specs.declared.ObjectData.{ObjectData}
use Rattle.map.specs.Map.{find_in, insert_answer}
use Rattle.protocol.specs.declared.argument.Argument.{Argument}
use Rattle.protocol.specs.declared.argument.Argument.TheVariants.{NewId}
use Rattle.protocol.specs.declared.argument.ArgumentType.{ArgumentType}
use Rattle.protocol.specs.declared.argument.ArgumentType.TheVariants as kind
use Rattle.protocol.specs.CoreRows.{core_rows, display}
use Rattle.protocol.specs.Lawful.{Lawful}
use Rattle.protocol.specs.Meaning.{request_in, request_of}
use Rattle.protocol.specs.Model.{RowModel, MessageModel}
use Rattle.message.specs.declared.part.Part.{Part}
use Rattle.wire.specs.Line.{Line, Waiting, Content, head_of, reads, rest}
use Rattle.backend.specs.declared.client.Client.{Client}
use Rattle.backend.specs.Acts.{received, Seat}
use Rattle.backend.specs.Calls.{roomy, display_object}
use Rattle.backend.specs.Requests.{Buffers, Place, stepped, of_sender, of_message, read_in, dispatched, synced, registered, origin_of, filled}
use Rattle.accounts.specs.Histories.{gained}
use Rattle.engine_laws.specs.Cases.{Asks, AsksSync, AsksRegistry}

-- the rows 0 to 3 of a catalogue are the core's
pub row_is : (rows : List RowModel) → take 4 rows ≡ core_rows → slice_get rows 1 ≡ Some display
row_is [] e = let z : ◌≡◌ {A = ℕ} 0 1 = cc in absurd (omega arith)
row_is (a ∷ []) e = let z : ◌≡◌ {A = ℕ} 0 1 = cc in absurd (omega arith)
row_is (a ∷ b ∷ rows) e = ap (λ (r : RowModel). Some r) (let s : b ≡ display = cc in s)

-- the buffers are large enough
pub body_room : (b : Buffers) → roomy b ≡ true → ltb (length b.body) 4096 ≡ false
body_room b e = not-true (ltb (length b.body) 4096) (and_parts (not (ltb (length b.text) 192)) (not (ltb (length b.body) 4096)) e).1

-- the seat of a client whose first request was taken off its line
abbrev pub taken : Client → Line → Seat
taken k l = record { client = k; line = l; acts = received ∷ [] }

-- the line after its one request was read
abbrev pub emptied : Line → Line
emptied l = record { requests = []; broken = l.broken; events = l.events; allowance = l.allowance; limit = l.limit }

-- a request as its parts
pub asked_is : {r : Waiting} {sender opcode : ℕ} {kinds : List ArgumentType} {arguments : List (Argument ℕ Part)} → Asks r sender opcode kinds arguments
    → r ≡ record { sender = sender; opcode = opcode; content = r.content }
asked_is {r} a = λ i. record { sender = a.sender_is i; opcode = a.opcode_is i; content = r.content }

abbrev sync_message : MessageModel
sync_message = record { name = codes "sync"; since = 1; destructor = false; kinds = kind.NewId ∷ []; child = Some 3; rows = [] }

abbrev registry_message : MessageModel
registry_message = record { name = codes "get_registry"; since = 1; destructor = false; kinds = kind.NewId ∷ []; child = Some 2; rows = [] }

module _ (p : Place) (k : Client) (l : Line) (none : l.requests ≡ []) (b : Buffers) (room : roomy b ≡ true) where
  -- a request that is read under the message's signature is looked at by the row of its sender
  pub reads_request : (r : Waiting) (sender opcode : ℕ) (m : MessageModel) (arguments : List (Argument ℕ Part)) → Asks r sender opcode m.kinds arguments
      → (o : Object ObjectData) → find_in k.map sender ≡ Some o → request_in p.terms.rows o.row opcode ≡ Some m
      → (c : Content) × (stepped p (head_of (gained (r ∷ []) l)) (record { client = k; line = gained (r ∷ []) l; acts = [] }) b
      ≡ dispatched p (origin_of p.client sender opcode o m) o m arguments (taken k (emptied l)) (filled c b))
  reads_request r sender opcode m arguments a o lives has = (
    said,
    ap (λ (x : Line). stepped p (head_of x) (record { client = k; line = x; acts = [] }) b) one
        ∙ (ap (λ (v : Option (Object ObjectData)). of_sender p sender opcode v start b) lives
        ∙ (ap (λ (v : Option MessageModel). of_message p sender opcode o v start b) has
        ∙ (ap (λ (v : Option Content). read_in p (origin_of p.client sender opcode o m) o m v start b) read
        ∙ ap (λ (v : Option Content). dispatched p (origin_of p.client sender opcode o m) o m arguments (taken k (left v)) (filled said b)) read))),
  )
    where
      said : Content
      said = record { arguments = arguments; body = a.says.0 }

      line : Line
      line = record { requests = record { sender = sender; opcode = opcode; content = r.content } ∷ []; broken = l.broken; events = l.events; allowance = l.allowance; limit = l.limit }

      start : Seat
      start = record { client = k; line = line; acts = [] }

      one : gained (r ∷ []) l ≡ line
      one = λ i. record { requests = none i ++ asked_is a i ∷ []; broken = l.broken; events = l.events; allowance = l.allowance; limit = l.limit }

      read : reads (length b.body) m.kinds line ≡ Some said
      read = cond-false (ltb (length b.body) 4096) None (r.content m.kinds) (body_room b room) ∙ a.says.1

      left : Option Content → Line
      left v = record { requests = rest v line.requests; broken = l.broken; events = l.events; allowance = l.allowance; limit = l.limit }

  module _ (lawful : Lawful p.terms.rows) (there : find_in k.map 1 ≡ Some display_object) where
    pub syncs_as : (r : Waiting) (id : ℕ) → AsksSync r id → (c : Content) × (stepped p (head_of (gained (r ∷ []) l)) (record { client = k; line = gained (r ∷ []) l; acts = [] }) b
        ≡ synced p id (insert_answer k.map id) (taken k (emptied l)) (filled c b))
    syncs_as r id a =
        reads_request r 1 0 sync_message (NewId id ∷ []) a display_object there (ap (λ (x : Option RowModel). request_of x 0) (row_is p.terms.rows lawful.begins))

    pub registers_as : (r : Waiting) (id : ℕ) → AsksRegistry r id → (c : Content) × (stepped p (head_of (gained (r ∷ []) l)) (record { client = k; line = gained (r ∷ []) l; acts = [] }) b
        ≡ registered p id (insert_answer k.map id) (taken k (emptied l)) (filled c b))
    registers_as r id a =
        reads_request r 1 1 registry_message (NewId id ∷ []) a display_object there (ap (λ (x : Option RowModel). request_of x 1) (row_is p.terms.rows lawful.begins))
