-- Where a place's cells lie.
use Rattle.std.specs.Prelude.{◌≡◌, ℕ, ◌+◌, ◌*◌, ◌<◌, ◌≤◌, Some, None, Option}
use Rattle.queue.specs.Marks.{Sound}
use Rattle.queue.specs.declared.Span.{Span}

-- a span of `width` cells out of `total`, for one place of several
pub record Spans (width total places place : ℕ) (s : Span) : Type 0 where
  pub known : place < places
  pub low : s.low ≡ place * width
  pub high : s.high ≡ place * width + width
  pub inside : s.high ≤ total
  pub sound : Sound width s.mark

-- what is known of a span that was looked for: nothing if there is none
abbrev pub Found : ℕ → ℕ → ℕ → ℕ → Option Span → Type 0
Found width total places place None = Unit {0}
Found width total places place (Some s) = Spans width total places place s
