-- What goes into a queue wire comes out again, and nothing is called malformed that is not.
use Rattle.std.specs.Prelude.{◌≡◌, ℕ, ◌≤◌, true, false, List, [], ◌∷◌, ◌++◌, map, length, Some, Err}
use Rattle.protocol.specs.Kinds.{kind_of}
use Rattle.protocol.specs.declared.argument.ArgumentType.{ArgumentType}
use Rattle.message.specs.Meaning.{said}
use Rattle.wire.specs.declared.answers.ReadError.TheVariants.{Malformed}
use Rattle.wire.specs.declared.queued.Request.{Request}
use Rattle.wire.specs.Line.{Line, Waiting, Content, reads, read_answer}
use Rattle.wire.specs.Queued.{waiting, well_formed, received, fresh}

-- the signature that a request was made for: the kinds of its own arguments
abbrev pub own_signature : Request → List ArgumentType
own_signature r = map kind_of (said r.message)

-- what a request is made of
abbrev pub made : Request → Content
made r = record { arguments = said r.message; body = r.body.now }

pub record QueuedLaws : Type 0 where
  -- a request that is put on an empty line is what the next read gives, unchanged, under its own signature
  pub put_comes_out : (r : Request) (l : Line) (size : ℕ) → l.requests ≡ [] → 4096 ≤ size → length r.body.now ≤ 4096 → length (said r.message) ≤ 8
      → reads size (own_signature r) (received true (waiting r) l) ≡ Some (made r)
  -- a request is put behind those that wait
  pub put_is_last : (r : Request) (l : Line) → (received true (waiting r) l).requests ≡ l.requests ++ waiting r ∷ []
  -- the first request is called malformed exactly where its body is over 4,096 bytes, or its arguments are over 8 or differ from
  -- the signature in number or kind
  pub malformed_is : (r : Request) (rest : List Waiting) (l : Line) (size : ℕ) (signature : List ArgumentType) → 4096 ≤ size → l.requests ≡ waiting r ∷ rest
      → well_formed r signature ≡ false → read_answer size signature l ≡ Err Malformed
  pub malformed_only : (r : Request) (rest : List Waiting) (l : Line) (size : ℕ) (signature : List ArgumentType) → l.requests ≡ waiting r ∷ rest
      → read_answer size signature l ≡ Err Malformed → well_formed r signature ≡ false
  -- a fresh line takes as many events as it has cells: an event is refused at once only where there is none
  pub limit_is_room : (room : ℕ) → ((fresh room).limit ≡ room) × ((fresh room).allowance ≡ room)
