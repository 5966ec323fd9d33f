-- What is told to a killed client changes nothing.
use Rattle.std.proofs.Common.{◌≡◌, ℕ, false, Ok, Err, Result, refl}
use Rattle.std.proofs.lemmas.Bool.{cond_both, cond-false}
use Rattle.message.specs.Events.{EventModel}
use Rattle.wire.specs.Line.{write_answer}
use Rattle.wire.specs.declared.answers.WriteError.{WriteError}
use Rattle.backend.specs.declared.ids.ObjectId.{ObjectId}
use Rattle.backend.specs.declared.registry.Global.{Global}
use Rattle.backend.specs.Texts.{name_in}
use Rattle.backend.specs.Events.{global_event}
use Rattle.backend.specs.World.{Terms, is_live}
use Rattle.backend.specs.Acts.{Seat, lost, offer, tell}
use Rattle.backend.specs.Registries.{visible, announce}

pub tell_same : (e : EventModel) (s : Seat) → (tell e s).client.serial ≡ s.client.serial
tell_same e s = cond_both (is_live s.client.state) (offer e s) s (λ (q : Seat). q.client.serial ≡ s.client.serial) (λ _. go (write_answer e s.line)) (λ _. refl)
  where
    go : (r : Result (Unit {0}) WriteError) → (lost r s.client).serial ≡ s.client.serial
    go (Ok u) = refl
    go (Err x) = refl

pub tell_silent : (e : EventModel) (s : Seat) → is_live s.client.state ≡ false → tell e s ≡ s
tell_silent e s d = cond-false (is_live s.client.state) (offer e s) s d

pub announce_same : (t : Terms) (x : ObjectId) (n : ℕ) (g : Global) (s : Seat) → (announce t x n g s).client.serial ≡ s.client.serial
announce_same t x n g s =
    cond_both (visible t x.client s.client n g) _ s (λ (q : Seat). q.client.serial ≡ s.client.serial) (λ _. tell_same (global_event x.id n (name_in t.rows g.row) g.version) s) (λ _. refl)

pub announce_silent : (t : Terms) (x : ObjectId) (n : ℕ) (g : Global) (s : Seat) → is_live s.client.state ≡ false → announce t x n g s ≡ s
announce_silent t x n g s d =
    cond_both (visible t x.client s.client n g) _ s (λ (q : Seat). q ≡ s) (λ _. tell_silent (global_event x.id n (name_in t.rows g.row) g.version) s d) (λ _. refl)
