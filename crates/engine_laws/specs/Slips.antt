-- Three slips that an engine like this invites, and that what the calls mean rules out.
use Rattle.std.specs.Prelude.{◌≡◌, ℕ, true, List, None, Ok, Err, Option}
use Rattle.map.specs.declared.ObjectMap.{ObjectMap}
use Rattle.map.specs.declared.ObjectData.{ObjectData}
use Rattle.map.specs.Map.{removed}
use Rattle.laws.specs.Sizes.{NotBelow}
use Rattle.protocol.specs.declared.argument.Argument.{Argument}
use Rattle.protocol.specs.declared.argument.ArgumentType.TheVariants as kind
use Rattle.protocol.specs.declared.refusal.Refusal.{Refusal}
use Rattle.message.specs.declared.part.Part.{Part}
use Rattle.backend.specs.declared.ids.ObjectId.{ObjectId}
use Rattle.backend.specs.declared.answers.SettledMaking.{SettledMaking}
use Rattle.backend.specs.declared.ticket.Outstanding.TheVariants as out
use Rattle.backend.specs.Tickets.{PlainTicket, MakingTicket, same_ticket}
use Rattle.backend.specs.World.{Terms, World}
use Rattle.backend.specs.Acts.{Seat}
use Rattle.backend.specs.Arguments.{Asked, argument}
use Rattle.backend.specs.Perform.{look, settle_plain, settle_making, looked, settled_plain, settled_making, perform}

-- the slips are ruled out
pub record SlipsAreRuledOut : Type 0 where
  -- No settle ends an object by its id alone: where a look with the sender's whole handle is refused, as after the sender was destroyed
  -- and another object was entered at its id, the settle of its ticket ends nothing.
  pub plain_ends_nothing : (t : Terms) (w : World) (x : PlainTicket) (e : Refusal) → (perform t (look x.request.sender) w).answer ≡ looked (Err e)
      → same_ticket w.engine.outstanding (out.Plain x.request) ≡ true → (perform t (settle_plain x) w).answer ≡ settled_plain (Ok None)
  pub making_ends_nothing : (t : Terms) (w : World) (x : MakingTicket) (d : ℕ) (e : Refusal) (s : SettledMaking)
      → (perform t (look x.request.origin.sender) w).answer ≡ looked (Err e) → (perform t (settle_making x d) w).answer ≡ settled_making (Ok s) → s.ended ≡ None
  -- the argument rows belong to the Object arguments: a new id does not move on in them
  pub rows_stay : (t : Terms) (q : Asked) (i : ℕ) (a : Argument ℕ Part) (child : Option ObjectId) (wanted : List ℕ) (s : Seat)
      → (argument t q i kind.NewId a child wanted s).wanted ≡ wanted
  -- the end of an object lowers no length of its client's tables
  pub lengths_stay : (m : ObjectMap ObjectData) (id : ℕ) → NotBelow m (removed m id)
