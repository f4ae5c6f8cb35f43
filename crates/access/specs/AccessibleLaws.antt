-- A block of a sound card is accessible; the card with empty counts and contents opens alike.
use Rattle.std.specs.Prelude.{ℕ, ◌<◌, ◌≡◌, refl}
use Rattle.card.specs.Card.{Card, allocated, has_key, window_open, points_to}
use Rattle.card.specs.SoundCard.{SoundCard}
use Rattle.card.specs.Access.{key_opens, opens_keyed, opens_pointed, opens, admits}
use Rattle.card.specs.declared.Mode.{Mode}
use Rattle.card.specs.declared.Mode.TheVariants.{Reading, Writing}
use Rattle.card.specs.declared.Port.{Port}
use Rattle.card.specs.declared.Port.TheVariants.{Host, Service}
use Rattle.card.specs.declared.Credential.{Credential}
use Rattle.card.specs.declared.Credential.TheVariants.{Nothing, Reference, Key}
use Rattle.tables.specs.InUseLaws.{sound_sorted}
use Rattle.access.specs.Accessible.{Accessible, bare}

pub sound_accessible : {c : Card} {b : ℕ} → SoundCard c → b < c.public.info.blocks → Accessible c b
sound_accessible s l = record {
  referable = record {
    blocks_high = s.shaped.in_ranges.blocks_high;
    flags = s.shaped.has_lengths.flags;
    windows = s.shaped.has_lengths.windows;
    sorted = sound_sorted s;
    below = l;
  };
  keys = s.shaped.has_lengths.keys;
}

pub opens_bare : (c : Card) (mode : Mode) (b : ℕ) (credential : Credential) → opens (bare c) mode b credential ≡ opens c mode b credential
unfolding opens opens_keyed opens_pointed key_opens allocated has_key window_open points_to
opens_bare c mode b Nothing = refl
opens_bare c mode b (Reference r) = refl
opens_bare c Reading b (Key high low) = refl
opens_bare c Writing b (Key high low) = refl

pub admits_bare : (port : Port) (c : Card) (mode : Mode) (b : ℕ) (credential : Credential) → admits port (bare c) mode b credential ≡ admits port c mode b credential
unfolding admits
admits_bare Host c mode b credential = opens_bare c mode b credential
admits_bare Service c mode b credential = refl
