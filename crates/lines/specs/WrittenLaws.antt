-- Laws of what is written into a lent buffer: one byte, nothing, and how two writes join.
use Rattle.std.specs.Prelude.{ℕ, ◌+◌, ◌≤◌, ◌≡◌, refl, List, [], ◌∷◌, ◌++◌, length, take, drop, set}
use Rattle.std.proofs.Common.{sym, ap, ap₂, ◌∙◌, append_assoc, arith, length-append, take-append-drop, add-zero, take_at, drop_at, drop-drop, length-take-le, add-one}
use Rattle.std.proofs.lemmas.List.{set_split}
use Rattle.card.specs.Contents.{overwrite}
use Rattle.lines.specs.Written.{Written}
use Rattle.laws.specs.ContentsLaws.{overwrite_length}

pub written_one : (xs : List ℕ) (at byte : ℕ) → at + 1 ≤ length xs → Written xs at (byte ∷ []) (set xs at byte) (at + 1)
unfolding overwrite
written_one xs at byte h = record { holds = rw add-one (set_split xs at byte (omega arith)); ends = refl }

-- Nothing written.
pub written_none : (xs : List ℕ) (at : ℕ) → Written xs at [] xs at
unfolding overwrite
written_none xs at = record { holds = rw add-zero (sym (take-append-drop at xs)); ends = omega arith }

-- What is written behind what was written.
pub overwrite_join : (xs : List ℕ) (at : ℕ) (ys zs : List ℕ) → at + length ys + length zs ≤ length xs
    → overwrite (overwrite xs at ys) (at + length ys) zs ≡ overwrite xs at (ys ++ zs)
unfolding overwrite
overwrite_join xs at ys zs h =
    let head : List ℕ = take at xs ++ ys in
    let tail : List ℕ = drop (at + length ys) xs in
    let regroup : take at xs ++ (ys ++ tail) ≡ head ++ tail = sym (append_assoc (take at xs) ys tail) in
    let long : length head ≡ at + length ys = length-append (take at xs) ys ∙ ap (λ (n : ℕ). n + length ys) (length-take-le at xs (omega arith)) in
    let front : take (at + length ys) (take at xs ++ (ys ++ tail)) ≡ head = ap (take (at + length ys)) regroup ∙ take_at head tail (at + length ys) long in
    let behind : drop (at + length ys + length zs) (take at xs ++ (ys ++ tail)) ≡ drop (at + length ys + length zs) xs =
    sym (drop-drop (length zs) (at + length ys) (take at xs ++ (ys ++ tail)))
    ∙ ap (drop (length zs)) (ap (drop (at + length ys)) regroup ∙ drop_at head tail (at + length ys) long)
    ∙ drop-drop (length zs) (at + length ys) xs in
    let total : at + length ys + length zs ≡ at + length (ys ++ zs) = omega (arith, length-append ys zs) in
    ap₂ (λ (us vs : List ℕ). us ++ (zs ++ vs)) front behind
    ∙ append_assoc (take at xs) ys (zs ++ drop (at + length ys + length zs) xs)
    ∙ ap (λ (us : List ℕ). take at xs ++ us) (sym (append_assoc ys zs (drop (at + length ys + length zs) xs)))
    ∙ ap (λ (n : ℕ). take at xs ++ ((ys ++ zs) ++ drop n xs)) total

pub written_join : {before middle after : List ℕ} {at next behind : ℕ} {ys zs : List ℕ} → Written before at ys middle next → Written middle next zs after behind
    → at + length ys + length zs ≤ length before → Written before at (ys ++ zs) after behind
written_join {before} {middle} {after} {at} {next} {behind} {ys} {zs} a b h = record {
  holds = b.holds ∙ rw (a.holds, a.ends) (overwrite_join before at ys zs h);
  ends = rw (length-append ys zs) (omega (arith, b.ends, a.ends));
}

pub written_length : {before after : List ℕ} {at behind : ℕ} {ys : List ℕ} → Written before at ys after behind → at + length ys ≤ length before → length after ≡ length before
written_length {before} {after} {at} {behind} {ys} w h = ap length w.holds ∙ overwrite_length before at ys h
