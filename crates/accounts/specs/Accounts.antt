-- The accounts of a history: what was handed out and what is owed, for each client and over all.
use Rattle.std.specs.Prelude.{◌≡◌, ℕ, ◌+◌, ◌<◌, false, cond, ◌&&◌, ◌⊎◌, List, [], ◌∷◌, length, Some, None, Ok, Err, Option, ◌==◌}
use Rattle.map.specs.declared.DataMark.TheVariants.{Awaited}
use Rattle.map.specs.Map.{limit}
use Rattle.protocol.specs.declared.argument.Argument.{Argument}
use Rattle.protocol.specs.declared.refusal.Refusal.TheVariants.{NoClient}
use Rattle.message.specs.Events.{EventModel}
use Rattle.backend.specs.declared.ids.ClientId.{ClientId}
use Rattle.backend.specs.declared.ids.ObjectId.{ObjectId}
use Rattle.backend.specs.declared.client.Client.{Client}
use Rattle.backend.specs.declared.client.End.{End}
use Rattle.backend.specs.declared.answers.ObjectInfo.{ObjectInfo}
use Rattle.backend.specs.Ids.{same_client}
use Rattle.backend.specs.Reading.{as_uint}
use Rattle.backend.specs.World.{Terms, World, client_at, is_live}
use Rattle.backend.specs.Acts.{Act, entered, ended, took, refused, received, flushed, opened, Deed}
use Rattle.backend.specs.Perform.{look, next, looked, found_next, perform}
use Rattle.accounts.specs.Histories.{History, deeds}
use Rattle.accounts.specs.Shown.{Ticket, ticket_of, child_of, Paper, handed, settled, entries, ends, papers}

-- Lists of handles.

-- the handle is one of the list
abbrev pub Has : ObjectId → List ObjectId → Type 0
Has x [] = ⊥
Has x (y ∷ ys) = (x ≡ y) ⊎ Has x ys

-- no two are the same
abbrev pub Apart : List ObjectId → Type 0
Apart [] = Unit {0}
Apart (x ∷ xs) = (Has x xs → ⊥) × Apart xs

-- those of one client
abbrev pub of : ClientId → List ObjectId → List ObjectId
of c [] = []
of c (x ∷ xs) = cond (same_client c x.client) (x ∷ of c xs) (of c xs)

-- What the calls find.

-- a look with this handle succeeds
abbrev pub Looks : Terms → World → ObjectId → Type 0
Looks t w x = (info : ObjectInfo) × ((perform t (look x) w).answer ≡ looked (Ok info))

-- The live objects of a client: those that next, begun at 0, finds in turn, and none where the client's handle is refused.
pub data Walk (t : Terms) (w : World) (c : ClientId) : ℕ → List ObjectId → Type 0 where
  no_client : {i : ℕ} → (perform t (next c i) w).answer ≡ found_next (Err NoClient) → Walk t w c i []
  no_more : {i : ℕ} → (perform t (next c i) w).answer ≡ found_next (Ok None) → Walk t w c i []
  goes_on : {i : ℕ} {x : ObjectId} {xs : List ObjectId} → (perform t (next c i) w).answer ≡ found_next (Ok (Some x)) → Walk t w c x.id xs → Walk t w c i (x ∷ xs)

-- What was done to one client, the latest first.

-- what was done to the client, among all that was done
abbrev pub acts_of : ClientId → List Deed → List Act
acts_of c [] = []
acts_of c (d ∷ ds) = cond (same_client c d.client) (d.act ∷ acts_of c ds) (acts_of c ds)

-- the wire has refused the client no event
abbrev pub Unrefused : List Act → Type 0
Unrefused [] = Unit {0}
Unrefused (entered x ∷ as') = Unrefused as'
Unrefused (ended e ∷ as') = Unrefused as'
Unrefused (took e ∷ as') = Unrefused as'
Unrefused (refused e ∷ as') = ⊥
Unrefused (received ∷ as') = Unrefused as'
Unrefused (flushed ∷ as') = Unrefused as'
Unrefused (opened ∷ as') = Unrefused as'

-- the objects entered, and the ends told

-- the objects entered, among what was done to a client
abbrev pub entries_in : List Act → List ObjectId
entries_in [] = []
entries_in (entered x ∷ as') = x ∷ entries_in as'
entries_in (ended e ∷ as') = entries_in as'
entries_in (took e ∷ as') = entries_in as'
entries_in (refused e ∷ as') = entries_in as'
entries_in (received ∷ as') = entries_in as'
entries_in (flushed ∷ as') = entries_in as'
entries_in (opened ∷ as') = entries_in as'

-- the ends told, among what was done to a client
abbrev pub ends_in : List Act → List End
ends_in [] = []
ends_in (entered x ∷ as') = ends_in as'
ends_in (ended e ∷ as') = e ∷ ends_in as'
ends_in (took e ∷ as') = ends_in as'
ends_in (refused e ∷ as') = ends_in as'
ends_in (received ∷ as') = ends_in as'
ends_in (flushed ∷ as') = ends_in as'
ends_in (opened ∷ as') = ends_in as'

-- Entries of a number, and its delete_id events.

-- a number comes into use, or is said to be free again
pub data Side : Type 0 where
  entry : Side
  delete : Side

-- the one argument of an event, where it is one unsigned number
abbrev pub only_uint : List (Argument ℕ (List ℕ)) → Option ℕ
only_uint [] = None
only_uint (a ∷ []) = as_uint a
only_uint (a ∷ b ∷ more) = None

-- the number that an event says may be used again: it is wl_display.delete_id, opcode 1 of object 1
abbrev pub deletes : EventModel → Option ℕ
deletes e = cond (e.sender == 1 && e.opcode == 1) (only_uint e.arguments) None

-- a number said to be free again, if it is this one
abbrev pub delete_side : ℕ → Option ℕ → List Side → List Side
delete_side i None s = s
delete_side i (Some j) s = cond (j == i) (delete ∷ s) s

-- the entries of a number and its delete_id events, the latest first
abbrev pub sides : ℕ → List Act → List Side
sides i [] = []
sides i (entered x ∷ as') = cond (x.id == i) (entry ∷ sides i as') (sides i as')
sides i (ended e ∷ as') = sides i as'
sides i (took e ∷ as') = delete_side i (deletes e) (sides i as')
sides i (refused e ∷ as') = sides i as'
sides i (received ∷ as') = sides i as'
sides i (flushed ∷ as') = sides i as'
sides i (opened ∷ as') = sides i as'

-- they alternate, an entry first; the second index is what comes next
pub data Alternates : List Side → Side → Type 0 where
  nothing : Alternates [] entry
  enters : {s : List Side} → Alternates s entry → Alternates (entry ∷ s) delete
  deleted : {s : List Side} → Alternates s delete → Alternates (delete ∷ s) entry

-- For each client: entries = live objects + ends told; no two entries share a handle, and no end is told twice; and for each number
-- of the client's half, entries and delete_id events alternate while the wire has refused the client no event.
pub record Agree (t : Terms) (h : History) (w : World) (c : ClientId) : Type 0 where
  pub sums : (live : List ObjectId) × Walk t w c 0 live × (length (of c (entries h)) ≡ length live + length (of c (ends h)))
  pub apart : Apart (of c (entries h))
  pub told_once : Apart (of c (ends h))
  pub alternate : Unrefused (acts_of c (deeds h)) → (i : ℕ) → i < limit → (following : Side) × Alternates (sides i (acts_of c (deeds h))) following

-- Over all: a look succeeds, with any handle at all, exactly when it was entered and its end is not told.
pub record Found (t : Terms) (h : History) (w : World) : Type 0 where
  pub looks_entered : (x : ObjectId) → Looks t w x → Has x (entries h) × (Has x (ends h) → ⊥)
  pub entered_looks : (x : ObjectId) → Has x (entries h) → (Has x (ends h) → ⊥) → Looks t w x

-- Tickets, the latest first: each is settled before the next is handed out. The second index is the one outstanding. So none is
-- settled twice, and never are two outstanding.
pub data Paired : List Paper → Option Ticket → Type 0 where
  none_out : Paired [] None
  goes_out : {ps : List Paper} (t : Ticket) → Paired ps None → Paired (handed t ∷ ps) (Some t)
  comes_back : {ps : List Paper} (t : Ticket) → Paired ps (Some t) → Paired (settled t ∷ ps) None

-- how many tickets were handed out
abbrev pub handed_out : List Paper → ℕ
handed_out [] = 0
handed_out (handed t ∷ ps) = 1 + handed_out ps
handed_out (settled t ∷ ps) = handed_out ps

-- how many were settled
abbrev pub taken_back : List Paper → ℕ
taken_back [] = 0
taken_back (handed t ∷ ps) = taken_back ps
taken_back (settled t ∷ ps) = 1 + taken_back ps

-- how many are outstanding: one or none
abbrev pub out_now : Option Ticket → ℕ
out_now None = 0
out_now (Some t) = 1

-- the client is there, and killed
abbrev pub Killed : World → ClientId → Type 0
Killed w c = (k : Client) × (client_at w c ≡ Some k) × (is_live k.state ≡ false)

-- the account of tickets
pub record Tickets (t : Terms) (h : History) (w : World) : Type 0 where
  pub paired : Paired (papers h) (ticket_of w.engine.outstanding)
  pub counted : handed_out (papers h) ≡ taken_back (papers h) + out_now (ticket_of w.engine.outstanding)
  -- a live object without data is the outstanding ticket's child, or its client is killed
  pub awaited : (x : ObjectId) (info : ObjectInfo) → (perform t (look x) w).answer ≡ looked (Ok info) → info.mark ≡ Awaited → (child_of (ticket_of w.engine.outstanding) ≡ Some x) ⊎ Killed w x.client
