-- A client that is live in its place: what a call does there, and what stands there after it.
use Rattle.std.proofs.Common.{◌≡◌, ℕ, Bool, true, eqb, List, [], length, Some, None, Ok, Option, Result, refl, ap, ◌∙◌, subst, arith}
use Rattle.std.proofs.lemmas.Bool.{eq-eqb, cond-true}
use Rattle.places.proofs.Laws.{at_set_same}
use Rattle.places.proofs.Vacant.{vacant_within}
use Rattle.places.specs.Places.{first_vacant}
use Rattle.map.specs.declared.ObjectData.{ObjectData}
use Rattle.map.specs.declared.ObjectMap.{ObjectMap}
use Rattle.protocol.specs.declared.refusal.Refusal.{Refusal}
use Rattle.protocol.specs.declared.refusal.Refusal.TheVariants.{BadSize, TicketOutstanding, NoClient, ClientKilled, NoVacancy}
use Rattle.wire.specs.Line.{Line, Waiting, head_of, opened}
use Rattle.backend.specs.declared.ids.ClientId.{ClientId}
use Rattle.backend.specs.declared.client.Client.{Client}
use Rattle.backend.specs.declared.client.ClientState.TheVariants.{Live}
use Rattle.backend.specs.declared.ticket.Outstanding.{Outstanding}
use Rattle.backend.specs.declared.ticket.Outstanding.TheVariants as out
use Rattle.backend.specs.World.{Terms, World, named, client_at, is_live, on_line}
use Rattle.backend.specs.Acts.{Seat, from, resumed, flush as flush_seat}
use Rattle.backend.specs.Checks.{the_client, passing, unless, present}
use Rattle.backend.specs.Requests.{Buffers, Stepped, Place, stepped as stepped_by}
use Rattle.backend.specs.Calls.{roomy, is_free, newcomer, new_client_id, admit_act, admit_world, step_check, step_act, step_run, flush_act}
use Rattle.backend.specs.Perform.{admit, step, flush, admitted, stepped, flushed, Outcome, checked, perform}
use Rattle.accounts.specs.Histories.{gained}
use Rattle.accounts.proofs.Kept.{named_same, client_same}

-- a live client of these parts
abbrev pub living : ℕ → ℕ → ℕ → ObjectMap ObjectData → Client
living serial d n m = record { serial = serial; «data» = d; state = Live; last_serial = n; map = m }

-- the client k sits in the place of c, its line is l, and no ticket is out
pub record Sits (w : World) (c : ClientId) (k : Client) (l : Line) : Type 0 where
  pub there : client_at w c ≡ Some k
  pub line_is : w.lines c.place ≡ l
  pub free : w.engine.outstanding ≡ out.Nothing

sits_new : (d p : ℕ) (w : World) → first_vacant w.engine.store.clients.places w.engine.store.clients.len ≡ Some p → w.engine.outstanding ≡ out.Nothing
    → Sits (admit_world d p w) (new_client_id p w) (newcomer (new_client_id p w).serial d) (opened (w.lines (new_client_id p w).place))
sits_new d p w q free = record {
  there = ap (named (new_client_id p w)) (at_set_same w.engine.store.clients.places p (Some (newcomer (new_client_id p w).serial d)) (vacant_within w.engine.store.clients.places w.engine.store.clients.len p q))
      ∙ named_same (new_client_id p w) (newcomer (new_client_id p w).serial d) refl;
  line_is = cond-true (eqb p p) _ _ (eq-eqb p p refl);
  free = free;
}

-- a client that was admitted
pub sits_admitted : (t : Terms) (d : ℕ) (w : World) (c : ClientId) → (perform t (admit d) w).answer ≡ admitted (Ok c) → w.engine.outstanding ≡ out.Nothing
    → Sits (perform t (admit d) w).run.world c (newcomer c.serial d) (opened (w.lines c.place))
sits_admitted t d w c e free = go (first_vacant w.engine.store.clients.places w.engine.store.clients.len) refl e
  where
    go : (v : Option ℕ) → first_vacant w.engine.store.clients.places w.engine.store.clients.len ≡ v → (checked admitted (present v NoVacancy) w (admit_act d w)).answer ≡ admitted (Ok c)
        → Sits (checked admitted (present v NoVacancy) w (admit_act d w)).run.world c (newcomer c.serial d) (opened (w.lines c.place))
    go None q f = let z : ◌≡◌ {A = ℕ} 0 1 = cc in absurd (omega arith)
    go (Some p) q f =
        let same : new_client_id p w ≡ c = cc in
        subst (λ (x : ClientId). Sits (admit_world d p w) x (newcomer x.serial d) (opened (w.lines x.place))) same (sits_new d p w q free)

-- an admission is nothing to the registry
pub registry_stays : (t : Terms) (d : ℕ) (w : World) → (perform t (admit d) w).run.world.engine.registry ≡ w.engine.registry
registry_stays t d w = go (first_vacant w.engine.store.clients.places w.engine.store.clients.len)
  where
    go : (v : Option ℕ) → (checked admitted (present v NoVacancy) w (admit_act d w)).run.world.engine.registry ≡ w.engine.registry
    go None = refl
    go (Some p) = refl

-- a request that comes to the line
pub sits_asking : {w : World} {c : ClientId} {k : Client} {l : Line} (more : List Waiting) → Sits w c k l → Sits (on_line c.place (gained more) w) c k (gained more l)
sits_asking {w} {c} {k} {l} more s = record {
  there = s.there;
  line_is = cond-true (eqb c.place c.place) _ _ (eq-eqb c.place c.place refl) ∙ ap (gained more) s.line_is;
  free = s.free;
}

-- what was done at the seat stands in the world
pub sits_resumed : {w : World} {c : ClientId} {k : Client} {l : Line} (a : Seat) → a.client.serial ≡ k.serial → Sits w c k l → Sits (resumed c a (from w)).world c a.client a.line
sits_resumed {w} {c} {k} {l} a same s = record {
  there = client_same w c k s.there a.client same;
  line_is = cond-true (eqb c.place c.place) _ _ (eq-eqb c.place c.place refl);
  free = s.free;
}

pub sits_stepped : {w : World} {c : ClientId} {k : Client} {l : Line} (a : Stepped) → a.seat.client.serial ≡ k.serial → a.outstanding ≡ out.Nothing → Sits w c k l
    → Sits (step_run c w a).world c a.seat.client a.seat.line
sits_stepped {w} {c} {k} {l} a same none s = let r = sits_resumed a.seat same s in record { there = r.there; line_is = r.line_is; free = none }

module _ (t : Terms) {w : World} {c : ClientId} {serial d n : ℕ} {m : ObjectMap ObjectData} {l : Line} (s : Sits w c (living serial d n m) l) where
  abbrev k : Client
  k = living serial d n m

  -- where a step is looked at
  abbrev pub place_of : Place
  place_of = record { terms = t; registry = w.engine.registry; client = c }

  abbrev alive : Client → Result Client Refusal
  alive q = passing (unless (is_live q.state) ClientKilled) (λ _. Ok q)

  abbrev pub over : Stepped → Outcome
  over a = record { answer = stepped (Ok a.answer); run = step_run c w a }

  -- a step of a live client
  pub steps : (b : Buffers) → roomy b ≡ true → (a : Stepped) → stepped_by place_of (head_of l) (record { client = k; line = l; acts = [] }) b ≡ a
      → perform t (step c b) w ≡ record { answer = stepped (Ok a.answer); run = step_run c w a }
  steps b room a e = ap (λ (r : Result Client Refusal). checked stepped r w (step_act t c b w)) may
      ∙ (ap (λ (x : Line). over (stepped_by place_of (head_of x) (record { client = k; line = x; acts = [] }) b)) s.line_is ∙ ap over e)
    where
      may : step_check c b w ≡ Ok k
      may = ap (λ (v : Bool). passing (unless v BadSize) (λ _. passing (unless (is_free w.engine.outstanding) TicketOutstanding) (λ _. passing (the_client w c) (λ k. alive k)))) room
          ∙ (ap (λ (o : Outstanding). passing (unless (is_free o) TicketOutstanding) (λ _. passing (the_client w c) (λ k. alive k))) s.free
          ∙ ap (λ (v : Option Client). passing (present v NoClient) (λ k. alive k)) s.there)

  -- a flush
  pub flushes : perform t (flush c) w ≡ record { answer = flushed (Ok (length l.events)); run = resumed c (flush_seat (record { client = k; line = l; acts = [] })) (from w) }
  flushes = ap (λ (v : Option Client). checked flushed (present v NoClient) w (flush_act c w)) s.there
      ∙ ap (λ (x : Line). record { answer = flushed (Ok (length x.events)); run = resumed c (flush_seat (record { client = k; line = x; acts = [] })) (from w) }) s.line_is
