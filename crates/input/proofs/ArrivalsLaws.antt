-- Laws of the records that bytes hold: record by record, and that those of the host port are calls of a host.
use Prim.Native.Nat.{ℕ, zero, suc, ◌<◌}
use Rattle.std.specs.Prelude.{◌≡◌, length}
use Rattle.std.proofs.Math.Path.{refl, ap, ap₂}
use Rattle.std.proofs.Common.{◌∙◌, arith}
use mathlib.Core.List.{List, ◌∷◌, map}
use Rattle.std.proofs.Math.ListN.{get_or}
use Rattle.card.specs.Session.{Sent, host_session}
use Rattle.card.specs.declared.Port.{Port}
use Rattle.card.specs.declared.Port.TheVariants.{Host}
use Rattle.card.specs.declared.Call.{Call}
use Rattle.decoding.specs.Decode.{Next, ended, refused, sent, decode}
use Rattle.decoding.proofs.DecodeLaws.{decode_shorter, host_sent}
use Rattle.input.specs.Play.{fault}
use Rattle.input.specs.Arrivals.{Arrivals, none_held, held_before, arrivals_of, arrivals_within, arrivals, request_with, sent_with}
use Rattle.input.specs.declared.Stop.TheVariants.{Ended}

-- ---- record by record

module _ (wire : Port) where
  -- What is said of the bytes behind the first record is said of shorter bytes alone.
  of_shorter : (f g : List ℕ → Arrivals) (xs : List ℕ) (n : Next) → decode wire xs ≡ n → ((ys : List ℕ) → length ys < length xs → f ys ≡ g ys)
      → arrivals_of wire f xs n ≡ arrivals_of wire g xs n
  unfolding arrivals_of
  of_shorter f g xs ended e h = refl
  of_shorter f g xs refused e h = refl
  of_shorter f g xs (sent port call payload rest) e h = ap (held_before _) (h rest (decode_shorter wire xs e))

  within_same : (k m : ℕ) (xs : List ℕ) → length xs < k → length xs < m → arrivals_within wire k xs ≡ arrivals_within wire m xs
  unfolding arrivals_within
  within_same zero m xs hk hm = absurd (omega arith)
  within_same (suc k) zero xs hk hm = absurd (omega arith)
  within_same (suc k) (suc m) xs hk hm =
      of_shorter (arrivals_within wire k) (arrivals_within wire m) xs (decode wire xs) refl (λ ys h. within_same k m ys (omega arith) (omega arith))

  module _ (xs : List ℕ) where
    next : arrivals wire xs ≡ arrivals_of wire (arrivals wire) xs (decode wire xs)
    unfolding arrivals arrivals_within
    next = of_shorter (arrivals_within wire (length xs)) (arrivals wire) xs (decode wire xs) refl (λ ys h. within_same (length xs) (suc (length ys)) ys h (omega arith))

    pub arrivals_ended : decode wire xs ≡ ended → arrivals wire xs ≡ none_held Ended xs
    unfolding arrivals_of
    arrivals_ended e = next ∙ ap (arrivals_of wire (arrivals wire) xs) e

    pub arrivals_refused : decode wire xs ≡ refused → arrivals wire xs ≡ none_held (fault wire xs) xs
    unfolding arrivals_of
    arrivals_refused e = next ∙ ap (arrivals_of wire (arrivals wire) xs) e

    pub arrivals_sent : {port : Port} {call : Call} {payload rest : List ℕ} → decode wire xs ≡ sent port call payload rest
        → arrivals wire xs ≡ held_before (record { kind = get_or xs 0 0; port = port; call = call; payload = payload }) (arrivals wire rest)
    unfolding arrivals_of
    arrivals_sent e = next ∙ ap (arrivals_of wire (arrivals wire) xs) e

-- ---- at the host port

module _ (size : Call → ℕ) where
  -- The records, as calls at their ports, are a host's session.
  abbrev IsHosts : Arrivals → Type 0
  IsHosts held = map (sent_with size) held.records ≡ host_session (map (request_with size) held.records)

  hosts_of : (behind : List ℕ → Arrivals) (xs : List ℕ) (n : Next) → decode Host xs ≡ n → ((ys : List ℕ) → IsHosts (behind ys)) → IsHosts (arrivals_of Host behind xs n)
  unfolding arrivals_of
  hosts_of behind xs ended e h = refl
  hosts_of behind xs refused e h = refl
  hosts_of behind xs (sent port call payload rest) e h =
      ap₂ (λ (p : Port) (ss : List Sent). record { port = p; request = request_with size (record { kind = get_or xs 0 0; port = port; call = call; payload = payload }) } ∷ ss)
      (host_sent xs e) (h rest)

  hosts_within : (k : ℕ) (xs : List ℕ) → IsHosts (arrivals_within Host k xs)
  unfolding arrivals_within
  hosts_within zero xs = refl
  hosts_within (suc k) xs = hosts_of (arrivals_within Host k) xs (decode Host xs) refl (hosts_within k)

  -- Bytes that arrive at the host port hold calls at the host port alone.
  pub host_arrivals : (xs : List ℕ) → map (sent_with size) (arrivals Host xs).records ≡ host_session (map (request_with size) (arrivals Host xs).records)
  unfolding arrivals
  host_arrivals xs = hosts_within (suc (length xs)) xs
