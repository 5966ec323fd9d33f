-- The laws of a row as tests, which the code can make; the laws in words are in Lawful.
use Rattle.std.specs.Prelude.{ℕ, Bool, true, cond, not, ◌&&◌, ltb, List, length, is_some, Some, None, Option, ◌==◌, nat_le, nat_lt}
use Rattle.std.specs.Str.{bytes_eq}
use Rattle.protocol.specs.Kinds.{is_object, is_new_id}
use Rattle.protocol.specs.Tallies.{all, count}
use Rattle.protocol.specs.Model.{MessageModel, RowModel}
use Rattle.protocol.specs.CoreRows.{core_rows}

-- 1 to 32 bytes, none zero
abbrev pub named : List ℕ → Bool
named bytes = nat_lt 0 (length bytes) && (nat_le (length bytes) 32 && all (λ b. ltb 0 b) bytes)

-- the child, where there is one, is a row
abbrev pub child_exists : ℕ → Option ℕ → Bool
child_exists n None = true
child_exists n (Some row) = nat_lt row n

-- a message in a catalogue of n rows
abbrev pub message_sound : ℕ → MessageModel → Bool
message_sound n m =
    named m.name
    && (nat_le (length m.kinds) 8
    && (count is_object m.kinds == length m.rows
    && (nat_le (count is_new_id m.kinds) 1
    && (all (λ row. ltb row n) m.rows && child_exists n m.child))))

-- a row in a catalogue of n rows
abbrev pub row_sound : ℕ → RowModel → Bool
row_sound n r =
    named r.name
    && (nat_le (length r.requests) 16
    && (nat_le (length r.events) 16
    && (all (message_sound n) r.requests && all (message_sound n) r.events)))

-- a request that makes an object says of which row
abbrev pub makes_named : MessageModel → Bool
makes_named m = cond (count is_new_id m.kinds == 0) true (is_some m.child)

-- none of the core's rows bears the name
abbrev pub is_fresh : List ℕ → Bool
is_fresh name = all (λ r. not (bytes_eq r.name name)) core_rows

-- a row that may stand past the core in a catalogue of n rows
abbrev pub may_stand : ℕ → RowModel → Bool
may_stand n r = row_sound n r && (all makes_named r.requests && is_fresh r.name)
