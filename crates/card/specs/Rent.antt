-- 2026-08, rent for the card: what a TICK adds to the total, and the cents that are asked for a total.
use Rattle.std.specs.Prelude.{ℕ, ◌+◌, ◌*◌, ◌/◌, ◌%◌, cond, eqb, ltb, length}
use Rattle.card.specs.Lists.{numbers_below}
use Rattle.card.specs.Card.{Public}
use Rattle.card.specs.Tree.{ordinary}

-- ---- the total, in blocks times seconds

-- How many "allocated non-root blocks" there are.
unfoldable pub rented : Public → ℕ
rented p = length (numbers_below (ordinary p) p.info.blocks)

-- "Each TICK of n adds n × the allocated non-root blocks to a new total in the card's record"
unfoldable pub rent_for : Public → ℕ → ℕ
rent_for p seconds = seconds * rented p

-- ---- the cents

-- "a price in thousandths of a cent for a block and a day, 0 to 2,000"
abbrev pub highest_price : ℕ
highest_price = 2000

-- "86,400,000": a day has 86,400 seconds, a cent 1,000 thousandths.
abbrev pub per_cent : ℕ
per_cent = 86400000

-- "a half upward": what is asked halfway between a number of cents and the next.
unfoldable pub half_rounded : ℕ → ℕ
half_rounded whole = whole + 1

-- "rounded to the nearest": of a number of parts, so many to a whole.
unfoldable pub rounded : ℕ → ℕ → ℕ
rounded parts size =
    let whole = parts / size in
    let twice = 2 * (parts % size) in
    cond (ltb twice size) whole (cond (eqb twice size) (half_rounded whole) (whole + 1))

-- "gives cents: total × price divided by 86,400,000, rounded to the nearest"
unfoldable pub cents : ℕ → ℕ → ℕ
cents total price = rounded (total * price) per_cent
