-- A refused call changes no table, record or buffer.
use mathlib.Core.Path.{◌≡◌, refl, ap}
use mathlib.Core.Bool.{Bool, true, false, ◌&&◌}
use Rattle.laws.specs.ListsLaws.{absurd_test}
use Rattle.card.specs.Card.{Card}
use Rattle.card.specs.Soundness.{ranges, lengths}
use Rattle.card.specs.Plan.{Buffers, Result, settle}
use Rattle.card.specs.Calls.{is_done, format_result, format, read_plan, write_plan, alloc_plan, alloc_contig_plan, create_plan, delete_plan, delete_tree_plan, key_plan, renew_plan, force_plan, free_plan, tick_plan, audit_plan, rent_plan, sweep_plan}
use Rattle.card.specs.Session.{plan, perform}
use Rattle.card.specs.Statements.Refusals.{RefusalUnchanged, Unchanged, FormatUnchanged}
use Rattle.card.specs.declared.Port.{Port}
use Rattle.card.specs.Answers.{Refused, Done}
use Rattle.card.specs.declared.Call.{Call}
use Rattle.card.specs.declared.Call.TheVariants.{Read, Write, Alloc, AllocContig, Create, Delete, DeleteTree, KeyRead, KeyWrite, Renew, Force, Free, Tick, Audit, Rent, Sweep}
use Rattle.laws.proofs.Judged.{judge_cases}

-- What a plan answers is never a refusal.
pub plan_done : (port : Port) (c : Card) (call : Call) (lent : Buffers) → is_done (plan port c call lent).answer ≡ true
unfolding plan read_plan write_plan alloc_plan alloc_contig_plan create_plan delete_plan delete_tree_plan key_plan renew_plan force_plan free_plan tick_plan audit_plan rent_plan sweep_plan
plan_done port c (Read o) lent = refl
plan_done port c (Write o) lent = refl
plan_done port c (Alloc o) lent = refl
plan_done port c (AllocContig o) lent = refl
plan_done port c (Create o) lent = refl
plan_done port c (Delete o) lent = refl
plan_done port c (DeleteTree o) lent = refl
plan_done port c (KeyRead o) lent = refl
plan_done port c (KeyWrite o) lent = refl
plan_done port c (Renew o) lent = refl
plan_done port c (Force o) lent = refl
plan_done port c Free lent = refl
plan_done port c (Tick o) lent = refl
plan_done port c Audit lent = refl
plan_done port c (Rent o) lent = refl
plan_done port c (Sweep o) lent = refl

pub refusal_unchanged : RefusalUnchanged
unfolding perform settle
refusal_unchanged port c q r =
    judge_cases (λ (result : Result). result.answer ≡ Refused r → Unchanged c q.lent result) c q.lent (plan port c q.call q.lent)
    (λ s e. record { after = refl; out = refl; places = refl })
    (λ s h e. absurd_test (plan_done port c q.call q.lent) (ap is_done e))

pub format_unchanged : FormatUnchanged
unfolding format format_result
format_unchanged blocks roots bytes c r = go (ranges blocks roots bytes && lengths blocks bytes c)
  where
    go : (t : Bool) → (format_result t blocks roots bytes c).answer ≡ Refused r → (format_result t blocks roots bytes c).after ≡ c
    go true e = absurd_test {t = is_done Done} refl (ap is_done e)
    go false e = refl
