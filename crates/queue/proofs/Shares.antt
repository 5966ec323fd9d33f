-- The laws of a row of queues: a change at one place, and none at the others.
use Rattle.std.proofs.Common.{◌≡◌, ℕ, zero, suc, ◌+◌, ◌-◌, ◌*◌, ◌/◌, ◌<◌, ◌≤◌, true, List, [], ◌∷◌, length, take, drop, set, Some, None, Option, sym, refl, ap, ◌∙◌, subst, mul-le-mul_right, suc-mul, arith}
use Rattle.queue.proofs.Rings.{ring_none, ring_length}
use Rattle.queue.specs.Marks.{Sound, sound, fresh, marked, held_in}
use Rattle.queue.specs.Ring.{part, at_place}
use Rattle.queue.specs.Rows.{share, seat, rows, rooms}
use Rattle.queue.specs.Spans.{Spans, Found}
use Rattle.queue.specs.declared.Mark.{Mark}
use Rattle.queue.specs.declared.Span.{Span}
use Rattle.std.proofs.lemmas.List.{length-set, get_or-set_same}
use Rattle.std.proofs.lemmas.Option.{slice_get-get_or}
use Rattle.std.proofs.lemmas.Slice.{between_is, between-put_mid, take-put_mid_below, drop-put_mid}
use Rattle.std.proofs.lemmas.Bool.{cases_eq}
use Rattle.std.specs.List.{slice_get}
use Rattle.std.specs.Option.{option_map, is_some, MatchOption}
use borrow.Rule.Slice.PartMut.{put_mid, same_len_mid, mid_len}

pub sound_from : (w : ℕ) (m : Mark) → Sound w m → sound w m ≡ true
sound_from w m s = grind arith

pub fresh_fits : (w : ℕ) → sound w fresh ≡ true
fresh_fits w = grind arith

-- the shares of places below one another
pub below : (p q w : ℕ) → p < q → p * w + w ≤ q * w
below p q w less =
    let one : suc p ≤ q = omega arith in
    omega (arith, suc-mul p w, mul-le-mul_right {m = suc p} {n = q} w one)

nth_set_here : {X : Type 0} (xs : List X) (i : ℕ) (x : X) → i < length xs → slice_get (set xs i x) i ≡ Some x
nth_set_here xs i x h = slice_get-get_or (set xs i x) i x (omega (arith, length-set xs i x)) ∙ ap Some (get_or-set_same xs i x x h)

nth_set_other : {X : Type 0} (xs : List X) (i j : ℕ) (x : X) → (j ≡ i → ⊥) → slice_get (set xs i x) j ≡ slice_get xs j
nth_set_other [] i j x ne = refl
nth_set_other (y ∷ ys) zero zero x ne = absurd (ne refl)
nth_set_other (y ∷ ys) zero (suc j) x ne = refl
nth_set_other (y ∷ ys) (suc i) zero x ne = refl
nth_set_other (y ∷ ys) (suc i) (suc j) x ne = nth_set_other ys i j x (λ e. ne (ap suc e))

-- a new mark at a place, and new cells there
module _ {A : Type 0} (cells cells' : List A) (marks : List Mark) (place : ℕ) (m m' : Mark)
    (known : place < length marks)
    (is : Some m ≡ seat (share cells marks) marks place)
    (ok : sound (share cells marks) m' ≡ true)
    (long : length cells' ≡ length cells)
    (other : (p : ℕ) → (p ≡ place → ⊥) → part (share cells marks) cells' p ≡ part (share cells marks) cells p)
  where
    width_same : share cells' (set marks place m') ≡ share cells marks
    width_same = ap (λ (n : ℕ). n / length (set marks place m')) long ∙ ap (λ (n : ℕ). length cells / n) (length-set marks place m')

    seat_here : seat (share cells marks) (set marks place m') place ≡ Some m'
    seat_here = grind (arith, nth_set_here marks place m' known)

    seat_there : (p : ℕ) → (p ≡ place → ⊥) → seat (share cells marks) (set marks place m') p ≡ seat (share cells marks) marks p
    seat_there p ne = grind (arith, nth_set_other marks place p m' ne)

    pub rows_changed : (f : List A → List A) → marked (part (share cells marks) cells' place) m' ≡ f (marked (part (share cells marks) cells place) m)
        → (p : ℕ) → rows cells' (set marks place m') p ≡ at_place place f (rows cells marks) p
    rows_changed f holds p = grind (arith, width_same, seat_here, seat_there p, other p, holds, is, cases_eq p place)

    pub rooms_same : (p : ℕ) → rooms cells' (set marks place m') p ≡ rooms cells marks p
    rooms_same p = grind (arith, width_same, seat_here, seat_there p, is, cases_eq p place)

-- cells written in the part of one place
module _ {A : Type 0} (cells ys : List A) (w place k : ℕ) (inside : place * w + w ≤ length cells) (wide : k ≡ w) (long : length ys ≡ w) where
  pub part_here : part w (put_mid (place * w) k cells ys) place ≡ ys
  part_here =
      let start : place * w ≤ length cells = omega arith in
      let same : length ys ≡ place * w + w - place * w = omega arith in
      between-put_mid (place * w) k cells ys (place * w + w) start same

  pub part_other : (p : ℕ) → (p ≡ place → ⊥) → part w (put_mid (place * w) k cells ys) p ≡ part w cells p
  part_other p ne = grind (arith, between_is (put_mid (place * w) k cells ys) (p * w) (p * w + w), between_is cells (p * w) (p * w + w), take-put_mid_below (place * w) k cells ys (p * w + w), drop-put_mid (place * w) k cells ys (p * w), below p place w, below place p w)

-- the same by a span, as the code has it
module _ {A : Type 0} (cells : List A) (marks : List Mark) (place : ℕ) (s : Span)
    (spans : Spans (share cells marks) (length cells) (length marks) place s)
    (is : Some s.mark ≡ seat (share cells marks) marks place)
  where
    -- the cells of the span
    abbrev pub own : List A
    own = take (s.high - s.low) (drop s.low cells)

    own_part : own ≡ part (share cells marks) cells place
    own_part = grind (arith, spans.high, spans.low)

    pub own_wide : length own ≡ share cells marks
    own_wide =
        let w = share cells marks in
        let inside : place * w + w ≤ length cells = omega (arith, spans.high, spans.inside) in
        ap length own_part ∙ mid_len (place * w) (place * w + w) cells inside ∙ omega arith

    pub own_room : length own ≡ rooms cells marks place
    own_room = grind (arith, own_wide, is)

    pub own_items : marked own s.mark ≡ rows cells marks place
    own_items = grind (arith, own_part, is)

    -- what a write in the span leaves
    module _ (ys : List A) (m' : Mark) (long : length ys ≡ length own) (ok : Sound (length own) m') where
      abbrev pub left : List A
      left = put_mid s.low (s.high - s.low) cells ys

      left_is : left ≡ put_mid (place * share cells marks) (s.high - s.low) cells ys
      left_is = ap (λ (l : ℕ). put_mid l (s.high - s.low) cells ys) spans.low

      fine : sound (share cells marks) m' ≡ true
      fine = sound_from (share cells marks) m' (subst (λ (n : ℕ). Sound n m') own_wide ok)

      inside : place * share cells marks + share cells marks ≤ length cells
      inside = omega (arith, spans.high, spans.inside)

      wide : s.high - s.low ≡ share cells marks
      wide = omega (arith, spans.high, spans.low)

      width : length ys ≡ share cells marks
      width = long ∙ own_wide

      left_long : length left ≡ length cells
      left_long = same_len_mid s.low (s.high - s.low) cells ys long

      left_other : (p : ℕ) → (p ≡ place → ⊥) → part (share cells marks) left p ≡ part (share cells marks) cells p
      left_other p ne = grind (arith, left_is, part_other cells ys (share cells marks) place (s.high - s.low) inside wide width p ne)

      left_here : part (share cells marks) left place ≡ ys
      left_here = grind (arith, left_is, part_here cells ys (share cells marks) place (s.high - s.low) inside wide width)

      pub left_rows : (f : List A → List A) → marked ys m' ≡ f (marked own s.mark) → (p : ℕ) → rows left (set marks place m') p ≡ at_place place f (rows cells marks) p
      left_rows f holds =
          rows_changed cells left marks place s.mark m' spans.known is fine left_long left_other f (grind (arith, left_here, holds, own_part))

      pub left_rooms : (p : ℕ) → rooms left (set marks place m') p ≡ rooms cells marks p
      left_rooms = rooms_same cells left marks place s.mark m' spans.known is fine left_long left_other

    -- what a cleared mark leaves
    pub cleared_rows : (p : ℕ) → rows cells (set marks place fresh) p ≡ at_place place (λ _. []) (rows cells marks) p
    cleared_rows =
        rows_changed cells cells marks place s.mark fresh spans.known is (fresh_fits (share cells marks)) refl (λ p ne. refl) (λ _. [])
        (ring_none (part (share cells marks) cells place) 0)

    pub cleared_rooms : (p : ℕ) → rooms cells (set marks place fresh) p ≡ rooms cells marks p
    cleared_rooms = rooms_same cells cells marks place s.mark fresh spans.known is (fresh_fits (share cells marks)) refl (λ p ne. refl)

    -- how many items wait there
    pub own_count : s.mark.count ≡ length (rows cells marks place)
    own_count =
        let few : s.mark.count ≤ length own = omega (arith, own_wide, spans.sound.1) in
        sym (ring_length own s.mark.head s.mark.count few) ∙ ap length own_items

-- the same where there may be no span
module _ {A : Type 0} (cells : List A) (marks : List Mark) (place : ℕ) where
  pub counted : (o : Option Span) (n : ℕ) → option_map (λ s. s.mark) o ≡ seat (share cells marks) marks place → Found (share cells marks) (length cells) (length marks) place o
      → MatchOption o (n ≡ 0) (λ s. n ≡ s.mark.count) → n ≡ length (rows cells marks place)
  counted None n is found counts = counts ∙ ap (λ (o : Option Mark). length (held_in (part (share cells marks) cells place) o)) is
  counted (Some s) n is found counts = counts ∙ own_count cells marks place s found is

  pub cleared : (o : Option Span) → is_some o ≡ true → option_map (λ s. s.mark) o ≡ seat (share cells marks) marks place → Found (share cells marks) (length cells) (length marks) place o
      → ((p : ℕ) → rows cells (set marks place fresh) p ≡ at_place place (λ _. []) (rows cells marks) p) × ((p : ℕ) → rooms cells (set marks place fresh) p ≡ rooms cells marks p)
  cleared None some is found = grind arith
  cleared (Some s) some is found = (cleared_rows cells marks place s found is, cleared_rooms cells marks place s found is)
