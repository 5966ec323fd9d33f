-- After any list of up to 4,294,967,295 calls, over any lines, any catalogue that keeps its laws and any policy, the accounts agree.
use Rattle.std.specs.Prelude.{◌≡◌, ℕ, ◌<◌, ◌≤◌, ◌∷◌, length}
use Rattle.protocol.specs.Lawful.{Lawful}
use Rattle.backend.specs.declared.ids.ClientId.{ClientId}
use Rattle.backend.specs.World.{Terms, World}
use Rattle.backend.specs.Perform.{Call, Answer, perform}
use Rattle.accounts.specs.Histories.{History, Leads}
use Rattle.accounts.specs.Accounts.{Agree, Found, Tickets}
use Rattle.accounts.specs.Tied.{Tied}

-- the accounts of a history, at the world that it leads to
pub record Accounts (t : Terms) (h : History) (w : World) : Type 0 where
  pub clients : (c : ClientId) → Agree t h w c
  pub objects : Found t h w
  pub tickets : Tickets t h w

-- the most calls of a history
abbrev pub most : ℕ
most = 4294967295

-- the whole-run theorem
abbrev pub Whole : Type 0
Whole = (t : Terms) → Lawful t.rows → (h : History) (w : World) → Leads t h w → length h ≤ most → Accounts t h w

-- what each call did is what its answer and the lines show
abbrev pub AllTied : Type 0
AllTied = (t : Terms) → Lawful t.rows → (c : Call) (w : World) → Tied t c w

-- What a public call promises: its answer and the world after are those of the definition, and for every history of fewer calls that
-- leads to the world before it, the history with this call agrees with the world after it.
pub record Performs (t : Terms) (c : Call) (w : World) (a : Answer) (v : World) : Type 0 where
  pub answers : a ≡ (perform t c w).answer
  pub leaves_engine : v.engine ≡ (perform t c w).run.world.engine
  pub leaves_lines : (p : ℕ) → v.lines p ≡ (perform t c w).run.world.lines p
  pub agrees : (h : History) → length h < most → Leads t h w → Accounts t (record { call = c; answer = a; deeds = (perform t c w).run.deeds } ∷ h) v

-- whatever answers and leaves as the definition says keeps that promise
abbrev pub Promised : Type 0
Promised =
    (t : Terms) → Lawful t.rows → (c : Call) (w : World) (a : Answer) (v : World) → a ≡ (perform t c w).answer → v.engine ≡ (perform t c w).run.world.engine
    → ((p : ℕ) → v.lines p ≡ (perform t c w).run.world.lines p) → Performs t c w a v
