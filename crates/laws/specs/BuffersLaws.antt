-- A call leaves the lent buffers that it has no use for: what is right without them is right with them.
use Rattle.std.specs.Prelude.{ℕ, ◌≡◌, Option, None, Some}
use Rattle.std.proofs.Math.Path.{refl}
use Rattle.std.proofs.Common.{◌∙◌}
use mathlib.Core.List.{List, []}
use Rattle.card.specs.Card.{Card}
use Rattle.card.specs.Plan.{Shown, nothing, block_part, numbers, Plan, Buffers, first, out_after, places_after, settle, judge_sound, changes}
use Rattle.laws.specs.PlanLaws.{done_by}
use Rattle.card.specs.Promises.{Is}
use Rattle.laws.specs.PromisesLaws.{is_same}
use Rattle.card.specs.Calls.{read_plan, write_plan, alloc_plan, alloc_contig_plan, create_plan, delete_plan, delete_tree_plan, key_plan, renew_plan, force_plan, free_plan, tick_plan, audit_plan, rent_plan, sweep_plan}
use Rattle.card.specs.Session.{key_call, request, plan, perform_sound}
use Rattle.card.specs.declared.Port.{Port}
use Rattle.card.specs.declared.Mode.{Mode}
use Rattle.card.specs.declared.Mode.TheVariants.{Reading, Writing}
use Rattle.card.specs.declared.Refusal.{Refusal}
use Rattle.card.specs.Answers.{Answer}
use Rattle.card.specs.Answers.{Done}
use Rattle.card.specs.declared.TransferOperands.{TransferOperands}
use Rattle.card.specs.declared.AllocOperands.{AllocOperands}
use Rattle.card.specs.declared.CreateOperands.{CreateOperands}
use Rattle.card.specs.declared.DeleteOperands.{DeleteOperands}
use Rattle.card.specs.declared.KeyOperands.{KeyOperands}
use Rattle.card.specs.declared.RenewOperands.{RenewOperands}
use Rattle.card.specs.declared.ForceOperands.{ForceOperands}
use Rattle.card.specs.declared.TickOperands.{TickOperands}
use Rattle.card.specs.declared.RentOperands.{RentOperands}
use Rattle.card.specs.declared.SweepOperands.{SweepOperands}
use Rattle.card.specs.declared.Call.{Call}
use Rattle.card.specs.declared.Call.TheVariants.{Read, Write, Alloc, AllocContig, Create, Delete, DeleteTree, Renew, Force, Free, Tick, Audit, Rent, Sweep}

abbrev buffers : List ℕ → List ℕ → List ℕ → Buffers
buffers input out places = record { input = input; out = out; places = places }

-- ---- by what a plan shows

module _ (c : Card) (p : Plan) {answer : Answer} {after : Card} where
  nothing_settled : (shown : Shown) → p.shown ≡ shown → shown ≡ nothing → (o : Option Refusal) (i input out places : List ℕ)
      → Is (settle c (buffers i [] []) p o) answer after [] [] → Is (settle c (buffers input out places) p o) answer after out places
  unfolding settle out_after places_after
  nothing_settled shown e n None i input out places h =
      let shows : p.shown ≡ nothing = e ∙ n in
      record { answers = h.answers; leaves = h.leaves; fills_out = rw shows; fills_places = rw shows }
  nothing_settled shown e n (Some r) i input out places h = record { answers = h.answers; leaves = h.leaves; fills_out = refl; fills_places = refl }

  pub shows_nothing : p.shown ≡ nothing → (i input out places : List ℕ) → Is (judge_sound c (buffers i [] []) p) answer after [] []
      → Is (judge_sound c (buffers input out places) p) answer after out places
  unfolding judge_sound
  shows_nothing e i input out places h = nothing_settled p.shown refl e (first p.checks) i input out places h

  block_settled : (b : ℕ) → p.shown ≡ block_part b → (o : Option Refusal) (input out places : List ℕ) {filled : List ℕ}
      → Is (settle c (buffers [] out []) p o) answer after filled [] → Is (settle c (buffers input out places) p o) answer after filled places
  unfolding settle out_after places_after
  block_settled b e None input out places h = record { answers = h.answers; leaves = h.leaves; fills_out = h.fills_out; fills_places = rw e }
  block_settled b e (Some r) input out places h = record { answers = h.answers; leaves = h.leaves; fills_out = h.fills_out; fills_places = refl }

  pub shows_block : (b : ℕ) → p.shown ≡ block_part b → (input out places : List ℕ) {filled : List ℕ} → Is (judge_sound c (buffers [] out []) p) answer after filled []
      → Is (judge_sound c (buffers input out places) p) answer after filled places
  unfolding judge_sound
  shows_block b e input out places h = block_settled b e (first p.checks) input out places h

  numbers_settled : (ns : List ℕ) → p.shown ≡ numbers ns → (o : Option Refusal) (input out places : List ℕ) {filled : List ℕ}
      → Is (settle c (buffers [] [] places) p o) answer after [] filled → Is (settle c (buffers input out places) p o) answer after out filled
  unfolding settle out_after places_after
  numbers_settled ns e None input out places h = record { answers = h.answers; leaves = h.leaves; fills_out = rw e; fills_places = h.fills_places }
  numbers_settled ns e (Some r) input out places h = record { answers = h.answers; leaves = h.leaves; fills_out = refl; fills_places = h.fills_places }

  pub shows_numbers : (ns : List ℕ) → p.shown ≡ numbers ns → (input out places : List ℕ) {filled : List ℕ} → Is (judge_sound c (buffers [] [] places) p) answer after [] filled
      → Is (judge_sound c (buffers input out places) p) answer after out filled
  unfolding judge_sound
  shows_numbers ns e input out places h = numbers_settled ns e (first p.checks) input out places h

-- ---- by the call

module _ (port : Port) (c : Card) (input out places : List ℕ) (call : Call) {answer : Answer} {after : Card} where
  pub with_read : {o : TransferOperands} {filled : List ℕ} → call ≡ Read o → Is (perform_sound port c (request (Read o) [] out [])) answer after filled []
      → Is (perform_sound port c (request call input out places)) answer after filled places
  unfolding perform_sound plan read_plan
  with_read e h = rw e (shows_block c _ _ refl input out places h)

  pub with_write : {o : TransferOperands} → call ≡ Write o → Is (perform_sound port c (request (Write o) input [] [])) answer after [] []
      → Is (perform_sound port c (request call input out places)) answer after out places
  unfolding perform_sound plan write_plan
  with_write e h = rw e (shows_nothing c _ refl input input out places h)

  pub with_alloc : {o : AllocOperands} {filled : List ℕ} → call ≡ Alloc o → Is (perform_sound port c (request (Alloc o) [] [] places)) answer after [] filled
      → Is (perform_sound port c (request call input out places)) answer after out filled
  unfolding perform_sound plan alloc_plan
  with_alloc e h = rw e (shows_numbers c _ _ refl input out places h)

  pub with_alloc_contig : {o : AllocOperands} {filled : List ℕ} → call ≡ AllocContig o → Is (perform_sound port c (request (AllocContig o) [] [] places)) answer after [] filled
      → Is (perform_sound port c (request call input out places)) answer after out filled
  unfolding perform_sound plan alloc_contig_plan
  with_alloc_contig e h = rw e (shows_numbers c _ _ refl input out places h)

  pub with_create : {o : CreateOperands} → call ≡ Create o → Is (perform_sound port c (request (Create o) [] [] [])) answer after [] []
      → Is (perform_sound port c (request call input out places)) answer after out places
  unfolding perform_sound plan create_plan
  with_create e h = rw e (shows_nothing c _ refl [] input out places h)

  pub with_delete : {o : DeleteOperands} → call ≡ Delete o → Is (perform_sound port c (request (Delete o) [] [] [])) answer after [] []
      → Is (perform_sound port c (request call input out places)) answer after out places
  unfolding perform_sound plan delete_plan
  with_delete e h = rw e (shows_nothing c _ refl [] input out places h)

  pub with_delete_tree : {o : DeleteOperands} → call ≡ DeleteTree o → Is (perform_sound port c (request (DeleteTree o) [] [] [])) answer after [] []
      → Is (perform_sound port c (request call input out places)) answer after out places
  unfolding perform_sound plan delete_tree_plan
  with_delete_tree e h = rw e (shows_nothing c _ refl [] input out places h)

  pub with_key : (mode : Mode) (o : KeyOperands) → call ≡ key_call mode o → Is (perform_sound port c (request (key_call mode o) [] [] [])) answer after [] []
      → Is (perform_sound port c (request call input out places)) answer after out places
  unfolding perform_sound plan key_plan
  with_key Reading o e h = rw e (shows_nothing c _ refl [] input out places h)
  with_key Writing o e h = rw e (shows_nothing c _ refl [] input out places h)

  pub with_renew : {o : RenewOperands} → call ≡ Renew o → Is (perform_sound port c (request (Renew o) [] [] [])) answer after [] []
      → Is (perform_sound port c (request call input out places)) answer after out places
  unfolding perform_sound plan renew_plan
  with_renew e h = rw e (shows_nothing c _ refl [] input out places h)

  pub with_force : {o : ForceOperands} → call ≡ Force o → Is (perform_sound port c (request (Force o) [] [] [])) answer after [] []
      → Is (perform_sound port c (request call input out places)) answer after out places
  unfolding perform_sound plan force_plan
  with_force e h = rw e (shows_nothing c _ refl [] input out places h)

  pub with_free : call ≡ Free → Is (perform_sound port c (request Free [] [] [])) answer after [] []
      → Is (perform_sound port c (request call input out places)) answer after out places
  unfolding perform_sound plan free_plan
  with_free e h = rw e (shows_nothing c _ refl [] input out places h)

  pub with_tick : {o : TickOperands} → call ≡ Tick o → Is (perform_sound port c (request (Tick o) [] [] [])) answer after [] []
      → Is (perform_sound port c (request call input out places)) answer after out places
  unfolding perform_sound plan tick_plan
  with_tick e h = rw e (shows_nothing c _ refl [] input out places h)

  pub with_rent : {o : RentOperands} → call ≡ Rent o → Is (perform_sound port c (request (Rent o) [] [] [])) answer after [] []
      → Is (perform_sound port c (request call input out places)) answer after out places
  unfolding perform_sound plan rent_plan
  with_rent e h = rw e (shows_nothing c _ refl [] input out places h)

  pub with_sweep : {o : SweepOperands} → call ≡ Sweep o → Is (perform_sound port c (request (Sweep o) [] [] [])) answer after [] []
      → Is (perform_sound port c (request call input out places)) answer after out places
  unfolding perform_sound plan sweep_plan
  with_sweep e h = rw e (shows_nothing c _ refl [] input out places h)

  -- AUDIT of an audited card is done.
  pub with_audit : call ≡ Audit → answer ≡ Done → after ≡ c → Is (perform_sound port c (request call input out places)) answer after out places
  unfolding perform_sound plan audit_plan changes out_after places_after
  with_audit q e s =
      rw q (is_same (done_by c (buffers input out places) audit_plan tt) (record { answers = e; leaves = s; fills_out = refl; fills_places = refl }))
