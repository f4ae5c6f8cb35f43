-- A key's flag is low; the operation that a mode number names; one plan for KEY_READ and KEY_WRITE.
use Rattle.std.specs.Prelude.{Option, is_some}
use Prim.Native.Nat.{ℕ, ◌+◌, ◌≤◌}
use mathlib.Core.Path.{◌≡◌}
use mathlib.Core.Bool.{Bool, true, false}
use mathlib.Core.List.{[]}
use native.Mathlib.Omega.{arith}
use borrow.Author.Tests.{eq-eqb, ne_eqb}
use Rattle.card.specs.Card.{Card, key_flag}
use Rattle.card.specs.Access.{admits}
use Rattle.card.specs.Plan.{other_mode, key_bit, keyed_flags, judge_sound}
use Rattle.card.specs.Promises.{Is}
use Rattle.card.specs.Calls.{mode_of, key_plan}
use Rattle.card.specs.Session.{key_call, request, perform_sound}
use Rattle.laws.specs.SessionLaws.{plan_key}
use Rattle.card.specs.declared.Port.{Port}
use Rattle.card.specs.declared.Mode.{Mode}
use Rattle.card.specs.declared.Mode.TheVariants.{Reading, Writing}
use Rattle.card.specs.declared.KeyOperands.{KeyOperands}
use Rattle.card.specs.Answers.{Answer}

pub bit_low : (mode : Mode) (there : Bool) → key_bit mode there ≤ 4
bit_low Reading false = omega arith
bit_low Writing false = omega arith
bit_low Reading true = omega arith
bit_low Writing true = omega arith

pub keyed : (f : ℕ) (mode : Mode) (key : Option (ℕ × ℕ)) {other : Mode} {own there : Bool} {x y : ℕ} → other ≡ other_mode mode → own ≡ is_some key → x ≡ key_bit mode own
    → there ≡ key_flag other f
    → y ≡ key_bit other there
    → 1 + x + y ≡ keyed_flags f mode key
keyed f mode key o p x t y = rw (x, y, p, t, o)

pub mode_reading : (m : ℕ) → m ≡ 0 → Reading ≡ mode_of m
unfolding mode_of
mode_reading m e = rw (eq-eqb m 0 e)

pub mode_writing : (m : ℕ) → (m ≡ 0 → ⊥) → Writing ≡ mode_of m
unfolding mode_of
mode_writing m e = rw (ne_eqb m 0 e)

-- KEY_READ and KEY_WRITE are judged by one plan.
pub key_judged : (port : Port) (c : Card) (mode : Mode) (o : KeyOperands) {answer : Answer} {after : Card}
    → Is (judge_sound c (record { input = []; out = []; places = [] }) (key_plan port c.public (admits port c Writing o.block o.credential) mode o)) answer after [] []
    → Is (perform_sound port c (request (key_call mode o) [] [] [])) answer after [] []
unfolding perform_sound
key_judged port c mode o h = rw (plan_key port c mode o _) h
