-- Demand 3 of things that perform calls and tell of them what their replies say: a function of C, a record, a batch.
use Prim.Native.Nat.{ℕ}
use mathlib.Core.Path.{◌≡◌, refl, sym, ap, ap₂, ◌∙◌}
use mathlib.Core.Logic.{⊎_elim}
use mathlib.Core.Bool.{Bool, ◌||◌, false≢true, or_assoc}
use mathlib.Core.List.{List, [], ◌∷◌, ◌++◌, map-append}
use lib.ListN.{length, take, drop, take-append-drop}
use Rattle.laws.specs.ListsLaws.{or_left, or_right, or_cases}
use Rattle.card.specs.Card.{Public, Card}
use Rattle.card.specs.SoundCard.{SoundCard}
use Rattle.card.specs.Session.{Request, replies, after_all, sent_by_host, host_session}
use Rattle.laws.specs.SessionLaws.{drop_replies, after_all_append, after_all_bytes}
use Rattle.card.specs.Reach.{presents, presented, HasKeys}
use Rattle.guarantees.proofs.Secrecy.Theorem.{secrecy_by}
use Rattle.card.specs.Statements.Secrecy.{EqualBut, HiddenOrUnallocated, Secret}

-- ---- acts

-- Something that a host does with a card whose blocks have so many bytes, and that gives an answer.
pub record Act (bytes : ℕ) (A : Type 0) : Type 0 where
  -- The calls that it holds; it makes as many of them as `made` says, from the first on.
  pub held : List Request
  pub answer : Card → A
  pub made : Card → ℕ
  -- What it answers and makes is told by the replies to the calls that it holds.
  pub told : (c d : Card) → c.public.info.bytes ≡ bytes → d.public.info.bytes ≡ bytes
      → replies c (host_session held) ≡ replies d (host_session held)
      → (answer c ≡ answer d) × (made c ≡ made d)

module _ {bytes : ℕ} {A : Type 0} where
  -- The calls that an act makes, and the card that they leave.
  abbrev pub calls : Card → Act bytes A → List Request
  calls c a = take (a.made c) a.held

  abbrev pub left : Card → Act bytes A → Card
  left c a = after_all c (host_session (calls c a))

  -- All the calls that a list of acts holds.
  unfoldable pub held_by : List (Act bytes A) → List Request
  held_by [] = []
  held_by (a ∷ acts) = a.held ++ held_by acts

  -- All those that it makes, each act on the card that those before it left.
  unfoldable pub made_by : Card → List (Act bytes A) → List Request
  made_by c [] = []
  made_by c (a ∷ acts) = calls c a ++ made_by (left c a) acts

  -- What the acts answer, each on the card that those before it left.
  unfoldable pub answers_by : Card → List (Act bytes A) → List A
  answers_by c [] = []
  answers_by c (a ∷ acts) = a.answer c ∷ answers_by (left c a) acts

  -- The answers and the calls made are the same on both cards, and the calls made keep the secret.
  pub record ActsSecret (K : ℕ → ℕ → Bool) (acts : List (Act bytes A)) (c d : Card) : Type 0 where
    pub answers : answers_by c acts ≡ answers_by d acts
    pub made : made_by c acts ≡ made_by d acts
    pub secret : Secret K (host_session (made_by c acts)) c d

-- ---- the keys that joined lists present

presented_append : (high low : ℕ) (xs ys : List Request) → presented (xs ++ ys) high low ≡ presented xs high low || presented ys high low
unfolding presented
presented_append high low [] ys = refl
presented_append high low (x ∷ xs) ys =
    ap (λ (t : Bool). presents x.call high low || t) (presented_append high low xs ys)
    ∙ sym (or_assoc (presents x.call high low) (presented xs high low) (presented ys high low))

module _ (K : ℕ → ℕ → Bool) where
  keys_left : (xs ys : List Request) → HasKeys K (xs ++ ys) → HasKeys K xs
  keys_left xs ys k high low h = k high low (presented_append high low xs ys ∙ or_left (presented xs high low) _ h)

  keys_right : (xs ys : List Request) → HasKeys K (xs ++ ys) → HasKeys K ys
  keys_right xs ys k high low h = k high low (presented_append high low xs ys ∙ or_right (presented xs high low) _ h)

  keys_append : (xs ys : List Request) → HasKeys K xs → HasKeys K ys → HasKeys K (xs ++ ys)
  keys_append xs ys k l high low h =
      ⊎_elim (k high low) (l high low) (or_cases (presented xs high low) (presented ys high low) (sym (presented_append high low xs ys) ∙ h))

  keys_take : (n : ℕ) (xs : List Request) → HasKeys K xs → HasKeys K (take n xs)
  keys_take n xs k = keys_left (take n xs) (drop n xs) (rw take-append-drop k)

-- ---- a list of a host's calls and more of them

-- The replies to the later calls are those behind the replies to the first.
later_replies : (c : Card) (xs ys : List Request)
    → drop (length (host_session xs)) (replies c (host_session (xs ++ ys))) ≡ replies (after_all c (host_session xs)) (host_session ys)
later_replies c xs ys = rw (map-append sent_by_host xs ys) (drop_replies c (host_session xs) (host_session ys))

later_card : (c : Card) (xs ys : List Request) → after_all (after_all c (host_session xs)) (host_session ys) ≡ after_all c (host_session (xs ++ ys))
later_card c xs ys = rw (map-append sent_by_host xs ys) (sym (after_all_append c (host_session xs) (host_session ys)))

-- ---- the theorem

keys_made : {bytes : ℕ} {A : Type 0} (K : ℕ → ℕ → Bool) (acts : List (Act bytes A)) (c : Card) → HasKeys K (held_by acts) → HasKeys K (made_by c acts)
unfolding held_by made_by
keys_made K [] c k = k
keys_made K (a ∷ acts) c k =
    keys_append K (calls c a) (made_by (left c a) acts) (keys_take K (a.made c) a.held (keys_left K a.held (held_by acts) k))
    (keys_made K acts (left c a) (keys_right K a.held (held_by acts) k))

module _ (K : ℕ → ℕ → Bool) (c d : Card) (sc : SoundCard c) (sd : SoundCard d) (same : EqualBut (HiddenOrUnallocated K c) c d) where
  -- The replies to more calls are the same on the two cards that the same calls before them left.
  same_replies : (before held : List Request) → HasKeys K before → HasKeys K held
      → replies (after_all c (host_session before)) (host_session held) ≡ replies (after_all d (host_session before)) (host_session held)
  same_replies before held b h =
      sym (later_replies c before held)
      ∙ ap (drop (length (host_session before))) (secrecy_by K (before ++ held) (keys_append K before held b h) c d sc sd same).answers
      ∙ later_replies d before held

  same_bytes : (before : List Request) → (after_all d (host_session before)).public.info.bytes ≡ c.public.info.bytes
  same_bytes before = after_all_bytes d (host_session before) ∙ ap (λ (p : Public). p.info.bytes) (sym same.same_public)

  -- Acts on the two cards that the same calls before them left: what each is told, and so what it answers and makes, is the same.
  same_acts : {bytes : ℕ} {A : Type 0} → c.public.info.bytes ≡ bytes → (acts : List (Act bytes A)) (before : List Request) (c' d' : Card)
      → c' ≡ after_all c (host_session before) → d' ≡ after_all d (host_session before) → HasKeys K before → HasKeys K (held_by acts)
      → (answers_by c' acts ≡ answers_by d' acts) × (made_by c' acts ≡ made_by d' acts)
  unfolding held_by made_by answers_by
  same_acts sized [] before c' d' ec ed b h = (refl, refl)
  same_acts sized (a ∷ acts) before c' d' ec ed b h =
      let hold : HasKeys K a.held = keys_left K a.held (held_by acts) h in
      let tells : (a.answer c' ≡ a.answer d') × (a.made c' ≡ a.made d') =
      rw (ec, ed)
      (a.told _ _ (after_all_bytes c (host_session before) ∙ sized) (same_bytes before ∙ sized) (same_replies before a.held b hold)) in
      let same_calls : calls c' a ≡ calls d' a = ap (λ (n : ℕ). take n a.held) tells.1 in
      let next_c : left c' a ≡ after_all c (host_session (before ++ calls c' a)) =
      ap (λ (x : Card). after_all x (host_session (calls c' a))) ec ∙ later_card c before (calls c' a) in
      let next_d : left d' a ≡ after_all d (host_session (before ++ calls c' a)) =
      ap₂ (λ (x : Card) (qs : List Request). after_all x (host_session qs)) ed (sym same_calls) ∙ later_card d before (calls c' a) in
      let rest =
      same_acts sized acts (before ++ calls c' a) (left c' a) (left d' a) next_c next_d
      (keys_append K before (calls c' a) b (keys_take K (a.made c') a.held hold))
      (keys_right K a.held (held_by acts) h) in
      (ap₂ ◌∷◌ tells.0 rest.0, ap₂ ◌++◌ same_calls rest.1)

-- Any acts, and any two sound cards that are equal but for the contents of hidden and unallocated blocks. Hidden is judged on the starting
-- card, with any keys that have all those presented in the calls that the acts hold.
pub acts_secret : {bytes : ℕ} {A : Type 0} (K : ℕ → ℕ → Bool) (acts : List (Act bytes A)) → HasKeys K (held_by acts)
    → (c d : Card) → SoundCard c → SoundCard d → c.public.info.bytes ≡ bytes → EqualBut (HiddenOrUnallocated K c) c d → ActsSecret K acts c d
unfolding after_all presented
acts_secret K acts k c d sc sd sized same =
    let both = same_acts K c d sc sd same sized acts [] c d refl refl (λ high low h. absurd (false≢true h)) k in
    record {
      answers = both.0;
      made = both.1;
      secret = secrecy_by K (made_by c acts) (keys_made K acts c k) c d sc sd same;
    }
