-- Histories: any list of calls on one new engine, each on the world that the one before left.
use Rattle.std.specs.Prelude.{ℕ, true, List, [], ◌∷◌, ◌++◌}
use Rattle.wire.specs.Line.{Line, Waiting}
use Rattle.backend.specs.World.{Terms, World, new_engine, on_line}
use Rattle.backend.specs.Acts.{Deed}
use Rattle.backend.specs.Perform.{Call, Answer, perform}

-- a call that was made, its answer, and what it did, the latest first
pub record Turn : Type 0 where
  pub call : Call
  pub answer : Answer
  pub deeds : List Deed

-- the latest first
abbrev pub History : Type 0
History = List Turn

-- the turn of a call that is made on a world
abbrev pub turn : Terms → Call → World → Turn
turn t c w = record { call = c; answer = (perform t c w).answer; deeds = (perform t c w).run.deeds }

-- more requests at the end of a line
abbrev pub gained : List Waiting → Line → Line
gained more l = record { requests = l.requests ++ more; broken = l.broken; events = l.events; allowance = l.allowance; limit = l.limit }

-- a broken mark
abbrev pub broken : Line → Line
broken l = record { requests = l.requests; broken = true; events = l.events; allowance = l.allowance; limit = l.limit }

-- A history leads to a world: it begins at a new engine over any lines; between calls a line may gain requests at its end, or a
-- broken mark, and nothing else; and each call does what it means.
pub data Leads (t : Terms) : History → World → Type 0 where
  begins : (lines : ℕ → Line) → Leads t [] (record { engine = new_engine; lines = lines })
  gains : {h : History} {w : World} (p : ℕ) (more : List Waiting) → Leads t h w → Leads t h (on_line p (gained more) w)
  breaks : {h : History} {w : World} (p : ℕ) → Leads t h w → Leads t h (on_line p broken w)
  calls : {h : History} {w : World} (c : Call) → Leads t h w → Leads t (turn t c w ∷ h) (perform t c w).run.world

-- all that was done, the latest first
abbrev pub deeds : History → List Deed
deeds [] = []
deeds (u ∷ h) = u.deeds ++ deeds h
