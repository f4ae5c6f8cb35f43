-- Document 01, "Within reach": presented keys, sealed and hidden blocks.
use Rattle.std.specs.Prelude.{ℕ, ◌≡◌, Bool, true, false, ◌&&◌, ◌||◌, not, List, [], ◌∷◌, eqb, Option, Some, None, Ok, Err}
use Rattle.card.specs.Card.{Card, allocated, has_key, is_root, window_open, points_to, key_high, key_low}
use Rattle.card.specs.Session.{Request, Sent, traits, performed}
use Rattle.card.specs.declared.Mode.{Mode}
use Rattle.card.specs.declared.Mode.TheVariants.{Reading, Writing}
use Rattle.card.specs.declared.Credential.{Credential}
use Rattle.card.specs.declared.Credential.TheVariants.{Nothing, Reference, Key as KeyCredential}
use Rattle.card.specs.Answers.{Answer}
use Rattle.card.specs.declared.Call.{Call}

-- ---- presented keys

-- The credential shows the key of these two words.
unfoldable pub shows : Credential → ℕ → ℕ → Bool
shows Nothing high low = false
shows (Reference r) high low = false
shows (KeyCredential h l) high low = eqb high h && eqb low l

-- One of the credentials shows it.
unfoldable pub some_shows : List Credential → ℕ → ℕ → Bool
some_shows [] high low = false
some_shows (c ∷ []) high low = shows c high low
some_shows (c ∷ (d ∷ cs)) high low = shows c high low || some_shows (d ∷ cs) high low

-- The call presents the key, as a credential or in RENEW.
unfoldable pub presents : Call → ℕ → ℕ → Bool
presents call high low = some_shows (traits call).credentials high low

-- Document 01, "Presented keys: every key used as a credential or in RENEW anywhere in the session."
unfoldable pub presented : List Request → ℕ → ℕ → Bool
presented [] high low = false
presented (q ∷ qs) high low = presents q.call high low || presented qs high low

-- These keys have all that the call presents, and all that a list of calls presents.
abbrev pub CallPresents : (ℕ → ℕ → Bool) → Call → Type 0
CallPresents K call = (high low : ℕ) → presents call high low ≡ true → K high low ≡ true

abbrev pub HasKeys : (ℕ → ℕ → Bool) → List Request → Type 0
HasKeys K qs = (high low : ℕ) → presented qs high low ≡ true → K high low ≡ true

-- ---- last pointers

-- Done with result 1.
unfoldable pub is_one : Answer → Bool
is_one (Err r) = false
is_one (Ok None) = false
is_one (Ok (Some v)) = eqb v 1

-- The block is the one that is named, if any.
abbrev named : Option ℕ → ℕ → Bool
named None b = false
named (Some a) b = eqb a b

-- Document 01, "A block's last pointer is taken away by a DELETE to it that is done with result 1."
unfoldable pub takes_last : Call → Answer → ℕ → Bool
takes_last call a b = named (traits call).takes_pointer_to b && is_one a

-- Some call of the list took the block's last pointer away.
unfoldable pub last_taken : Card → List Sent → ℕ → Bool
last_taken c [] b = false
last_taken c (s ∷ ss) b = takes_last s.request.call (performed c s).answer b || last_taken (performed c s).after ss b

-- ---- sealed, within reach, hidden

module _ (isPresented : ℕ → ℕ → Bool) (c : Card) where
  -- The block has a key for the mode, and that key is presented.
  unfoldable pub key_presented : Mode → ℕ → Bool
  key_presented mode b = has_key c.public mode b && isPresented (key_high c.keys mode b) (key_low c.keys mode b)

  -- Document 01, "Sealed: carries a read and a write key, neither presented."
  unfoldable pub sealed : ℕ → Bool
  sealed b =
      (has_key c.public Reading b && has_key c.public Writing b)
      && (not (key_presented Reading b) && not (key_presented Writing b))

  -- Document 01, "Within reach is the least set of allocated blocks": a constructor for each of its four clauses.
  pub data Reach : ℕ → Type 0 where
    unsealed_root : {b : ℕ} → allocated c.public b ≡ true → is_root c.public b ≡ true → sealed b ≡ false → Reach b
    by_key : {b : ℕ} (mode : Mode) → allocated c.public b ≡ true → key_presented mode b ≡ true → Reach b
    open_window : {b : ℕ} (mode : Mode) → allocated c.public b ≡ true → window_open c.public mode b ≡ true → Reach b
    pointed : {a b : ℕ} → Reach a → allocated c.public b ≡ true → points_to c.public a b ≡ true → sealed b ≡ false → Reach b

  -- Document 01, "Other allocated blocks are hidden."
  pub record Hidden (b : ℕ) : Type 0 where
    pub is_allocated : allocated c.public b ≡ true
    pub out_of_reach : Reach b → ⊥
