-- What a step shows and does to the line.
use Rattle.std.proofs.Common.{◌≡◌, ℕ, ◌≤◌, eqb, ltb, List, [], length, Some, None, Ok, Err, Option, Result, refl, ap, ◌∙◌}
use Rattle.std.proofs.lemmas.Bool.{cond_both}
use Rattle.map.specs.declared.DataMark.TheVariants.{Own, Awaited}
use Rattle.map.specs.declared.fault.MapFault.{MapFault}
use Rattle.map.specs.declared.Object.{Object}
use Rattle.map.specs.declared.ObjectData.{ObjectData}
use Rattle.map.specs.Map.{find_in, insert_answer}
use Rattle.protocol.specs.Kinds.{is_new_id}
use Rattle.protocol.specs.Lawful.{Lawful}
use Rattle.protocol.specs.Meaning.{request_in}
use Rattle.protocol.specs.Model.{MessageModel}
use Rattle.protocol.specs.Tallies.{count}
use Rattle.protocol.specs.declared.argument.Argument.{Argument}
use Rattle.message.specs.declared.part.Part.{Part}
use Rattle.wire.specs.declared.answers.Head.{Head}
use Rattle.wire.specs.declared.answers.Head.TheVariants as head
use Rattle.wire.specs.Line.{Line, Content, rest, reads}
use Rattle.backend.specs.declared.ids.ObjectId.{ObjectId}
use Rattle.backend.specs.declared.client.DisconnectReason.TheVariants.{ConnectionClosed}
use Rattle.backend.specs.declared.registry.Global.{Global}
use Rattle.backend.specs.declared.ticket.Origin.{Origin}
use Rattle.backend.specs.Faults.{code_of, number_of_error}
use Rattle.backend.specs.Events.{done_event}
use Rattle.backend.specs.Acts.{Seat, offer, enter, fresh, draw}
use Rattle.backend.specs.Registries.{roll_end}
use Rattle.backend.specs.Reading.{BindAsked, only_new_id, bind_arguments}
use Rattle.backend.specs.Arguments.{Asked, Failing, at_argument, entry_failing, child_row, Walked, walk}
use Rattle.backend.specs.Texts.{name_in, unknown_id, unknown_opcode, invalid_method, invalid_binding, no_memory, malformed_request, null_interface}
use Rattle.backend.specs.declared.faults.ClientFault.TheVariants.{RollFull, NullInterface}
use Rattle.backend.specs.declared.faults.StepFault.TheVariants as fault
use Rattle.backend.specs.Requests.{
  Buffers,
  Stepped,
  Place,
  failed,
  synced,
  enlisted,
  registered,
  displayed,
  bind_entered,
  bind_to,
  bind_named,
  bound,
  hand_out,
  concluded,
  asked,
  origin_of,
  dispatched,
  received_at,
  filled,
  read_in,
  of_message,
  of_sender,
  stepped,
}
use Rattle.accounts.specs.Shown.{one, step_entries, step_ends}
use Rattle.accounts.specs.Tied.{shortened}
use Rattle.accounts.proofs.Walks.{walk_any}
use Rattle.accounts.proofs.Steps.{one_new_id}
use Rattle.accounts.proofs.Ties.{Ties, offer_ties, kill_ties, fail_ties, draw_ties, enter_ties, end_ties, announce_all_ties}

-- the answer shows the entries and ends of the seat
abbrev pub Shows : Line → Stepped → Type 0
Shows l r = Ties l (step_entries r.answer) (step_ends r.answer) r.seat

abbrev malformed : Failing
malformed = record { fault = fault.Malformed; text = malformed_request }

module _ (p : Place) (l : Line) where
  failed_ties : (f : Failing) (made : Option ObjectId) (s : Seat) (b : Buffers) → Ties l (one made) [] s → Shows l (failed p f made s b)
  failed_ties f made s b g = fail_ties (number_of_error (code_of f.fault)) 1 1 f.text s g

  out_ties : (o : Origin) (v : Option ObjectId) (os : List (Option ObjectId)) (s : Seat) (b : Buffers) → Ties l (one v) [] s → Shows l (hand_out p o v os s b)
  out_ties o None os s b g = g
  out_ties o (Some child) os s b g = g

  concluded_ties : (o : Origin) (f : Option Failing) (r : Walked) (b : Buffers) → Ties l (one r.child) [] r.seat → Shows l (concluded p o f r b)
  concluded_ties o (Some f) r b g = failed_ties f r.child r.seat b g
  concluded_ties o None r b g = out_ties o r.child r.objects r.seat b g

  module _ (s : Seat) (b : Buffers) (g : Ties l [] [] s) where
    synced_ties : (id : ℕ) (r : Result (Unit {0}) MapFault) → Shows l (synced p id r s b)
    synced_ties id (Err f) = failed_ties (entry_failing 0 f id) None (draw s) b (draw_ties s g)
    synced_ties id (Ok u) =
        end_ties (fresh p.client id 3 s.client) Own (offer (done_event id) (enter p.client id 3 1 Own s))
        (offer_ties (done_event id) (enter p.client id 3 1 Own s) (enter_ties p.client id 3 1 Own s g))

    enlisted_ties : (id : ℕ) (v : Option ℕ) → Shows l (enlisted p id v s b)
    enlisted_ties id None = failed_ties (at_argument 0 RollFull no_memory) None (draw s) b (draw_ties s g)
    enlisted_ties id (Some i) =
        announce_all_ties p.terms (fresh p.client id 2 s.client) 1 p.registry.globals.places (enter p.client id 2 1 Own s) (enter_ties p.client id 2 1 Own s g)

    registered_ties : (id : ℕ) (r : Result (Unit {0}) MapFault) → Shows l (registered p id r s b)
    registered_ties id (Err f) = failed_ties (entry_failing 0 f id) None (draw s) b (draw_ties s g)
    registered_ties id (Ok u) = enlisted_ties id (roll_end p.registry.roll)

    displayed_ties : (opcode : ℕ) (v : Option ℕ) → Shows l (displayed p opcode v s b)
    displayed_ties opcode None = failed_ties malformed None s b g
    displayed_ties opcode (Some id) =
        cond_both (eqb opcode 0) _ _ (Shows l) (λ _. synced_ties id (insert_answer s.client.map id)) (λ _. registered_ties id (insert_answer s.client.map id))

    bind_entered_ties : (o : Origin) (name version id : ℕ) (x : Global) (r : Result (Unit {0}) MapFault) → Shows l (bind_entered p o name version id x r s b)
    bind_entered_ties o name version id x (Err f) = failed_ties (entry_failing 3 f id) None (draw s) b (draw_ties s g)
    bind_entered_ties o name version id x (Ok u) = enter_ties p.client id x.row version Awaited s g

    bind_to_ties : (o : Origin) (name : ℕ) (interface : List ℕ) (version id : ℕ) (x : Option Global) → Shows l (bind_to p o name interface version id x s b)
    bind_to_ties o name interface version id None = failed_ties (record { fault = fault.InvalidBinding; text = invalid_binding interface version name }) None s b g
    bind_to_ties o name interface version id (Some x) = bind_entered_ties o name version id x (insert_answer s.client.map id)

    bind_named_ties : (o : Origin) (name : ℕ) (text : Option Part) (version id : ℕ) → Shows l (bind_named p o name text version id s b)
    bind_named_ties o name None version id = failed_ties (at_argument 1 NullInterface null_interface) None s b g
    bind_named_ties o name (Some text) version id = bind_to_ties o name _ version id _

    bound_ties : (o : Origin) (a : Option (BindAsked Part)) → Shows l (bound p o a s b)
    bound_ties o None = failed_ties malformed None s b g
    bound_ties o (Some a) = bind_named_ties o a.name a.interface a.version a.new_id

    asked_ties : (o : Origin) (x : Object ObjectData) (m : MessageModel) (as' : List (Argument ℕ Part)) → count is_new_id m.kinds ≤ 1 → Shows l (asked p o x m as' s b)
    asked_ties o x m as' few =
        cond_both (ltb x.version m.since) _ _ (Shows l) (λ _. failed_ties (record { fault = fault.TooNew; text = invalid_method o.opcode x.version m.since (name_in p.terms.rows x.row) o.sender.id }) None s b g)
        (λ _. concluded_ties o r.fault r b
        (walk_any p.terms q (λ y. Ties l [] [] y) (λ v y. Ties l (one v) [] y) (λ y f. f) (λ y f. draw_ties y f)
        (λ y f id e. enter_ties q.sender.client id (child_row m.child) x.version Awaited y f) m.kinds as' 0 None m.rows s few refl g))
      where
        q : Asked
        q = record { sender = o.sender; version = x.version; message = m }

        r : Walked
        r = walk p.terms q 0 m.kinds as' None m.rows s

  module _ (lawful : Lawful p.terms.rows) where
    dispatched_ties : (s : Seat) (b : Buffers) → Ties l [] [] s → (o : Origin) (x : Object ObjectData) (m : MessageModel) → count is_new_id m.kinds ≤ 1 → (as' : List (Argument ℕ Part))
        → Shows l (dispatched p o x m as' s b)
    dispatched_ties s b g o x m few as' =
        cond_both (eqb x.row 1) _ _ (Shows l) (λ _. displayed_ties s b g o.opcode (only_new_id as'))
        (λ _. cond_both (eqb x.row 2) _ _ (Shows l) (λ _. bound_ties s b g o (bind_arguments as')) (λ _. asked_ties s b g o x m as' few))

    -- a request that was read is the first of the line
    received_ties : (m : MessageModel) (s : Seat) (b : Buffers) (c : Content) → reads (length b.body) m.kinds s.line ≡ Some c → Ties l [] [] s → Ties l [] [] (received_at m s b)
    received_ties m s b c e g = record {
      entries_are = g.entries_are;
      ends_are = g.ends_are;
      line_is =
          ap (λ (v : Option Content). record { requests = rest v s.line.requests; broken = s.line.broken; events = s.line.events; allowance = s.line.allowance; limit = s.line.limit }) e
          ∙ ap shortened g.line_is;
    }

    read_ties : (s : Seat) (b : Buffers) → Ties l [] [] s → (o : Origin) (x : Object ObjectData) (m : MessageModel) → count is_new_id m.kinds ≤ 1
        → (c : Option Content) → reads (length b.body) m.kinds s.line ≡ c → Shows l (read_in p o x m c s b)
    read_ties s b g o x m few None e = failed_ties malformed None s b g
    read_ties s b g o x m few (Some c) e = dispatched_ties (received_at m s b) (filled c b) (received_ties m s b c e g) o x m few c.arguments

    message_ties : (s : Seat) (b : Buffers) → Ties l [] [] s → (id opcode : ℕ) (x : Object ObjectData) (m : Option MessageModel) → request_in p.terms.rows x.row opcode ≡ m
        → Shows l (of_message p id opcode x m s b)
    message_ties s b g id opcode x None e = failed_ties (record { fault = fault.UnknownOpcode; text = unknown_opcode opcode (name_in p.terms.rows x.row) }) None s b g
    message_ties s b g id opcode x (Some m) e =
        read_ties s b g (origin_of p.client id opcode x m) x m (one_new_id p.terms.rows lawful x.row opcode m e) (reads (length b.body) m.kinds s.line) refl

    sender_ties : (s : Seat) (b : Buffers) → Ties l [] [] s → (id opcode : ℕ) (x : Option (Object ObjectData)) → Shows l (of_sender p id opcode x s b)
    sender_ties s b g id opcode None = failed_ties (record { fault = fault.UnknownSender; text = unknown_id id }) None s b g
    sender_ties s b g id opcode (Some x) = message_ties s b g id opcode x (request_in p.terms.rows x.row opcode) refl

    pub stepped_ties : (d : Head) (s : Seat) (b : Buffers) → Ties l [] [] s → Shows l (stepped p d s b)
    stepped_ties head.Nothing s b g = g
    stepped_ties head.Broken s b g = kill_ties ConnectionClosed s g
    stepped_ties (head.Request id opcode) s b g = sender_ties s b g id opcode (find_in s.client.map id)
