-- What a metered wire means: at places 0 to 31 the lesser of its own numbers and those of the wire below, and no other places.
use Rattle.std.specs.Prelude.{ℕ, min, cond, List, nat_lt, slice_index}
use Rattle.wire.specs.Line.{Line, lacking}

abbrev lesser : ℕ → ℕ → Line → Line
lesser left own l = record { requests = l.requests; broken = l.broken; events = l.events; allowance = min left l.allowance; limit = min own l.limit }

-- `left` says of each place how many events it takes before the next flush, and `own` how many after one
abbrev pub metered : ℕ → List ℕ → (ℕ → Line) → ℕ → Line
metered own left below p = cond (nat_lt p 32) (lesser (slice_index left p) own (below p)) lacking
