-- The lengths that are worked out from a kind are those of its call.
use Rattle.std.specs.Prelude.{ℕ, ◌≡◌, refl, Some}
use Rattle.std.proofs.Common.{sym, ap, ◌∙◌}
use Rattle.card.specs.declared.Port.{Port}
use Rattle.card.specs.declared.Port.TheVariants.{Host, Service}
use Rattle.kinds.specs.Kinds.{row, kind_number, length_of, data_length, operands_length, lengths_of, kind_of}
use Rattle.kinds.proofs.KindsLaws.{kind_number_law}
use Rattle.kinds.specs.Arithmetic.{number_of, has_credential, part_of, behind_credential, without_credential, operands_at, lengths_numbered, lengths_at}
use Rattle.kinds.specs.declared.Lengths.{Lengths}
use Rattle.kinds.specs.declared.Name.{Name}
use Rattle.kinds.specs.declared.Name.TheVariants.{Read as READ, Write as WRITE, Alloc as ALLOC, Create as CREATE, Delete as DELETE, KeyRead as KEY-READ, Renew as RENEW, Force as FORCE, Free as FREE, Tick as TICK, Audit as AUDIT, AllocContig as ALLOC-CONTIG, KeyWrite as KEY-WRITE, DeleteTree as DELETE-TREE}

number_lengths : (port : Port) (name : Name) → lengths_at (kind_number port name) ≡ lengths_of name
unfolding row kind_number length_of data_length operands_length lengths_of number_of has_credential part_of behind_credential without_credential operands_at lengths_numbered lengths_at
number_lengths Host READ = refl
number_lengths Host WRITE = refl
number_lengths Host ALLOC = refl
number_lengths Host CREATE = refl
number_lengths Host DELETE = refl
number_lengths Host KEY-READ = refl
number_lengths Host RENEW = refl
number_lengths Host FORCE = refl
number_lengths Host FREE = refl
number_lengths Host TICK = refl
number_lengths Host AUDIT = refl
number_lengths Host ALLOC-CONTIG = refl
number_lengths Host KEY-WRITE = refl
number_lengths Host DELETE-TREE = refl
number_lengths Service READ = refl
number_lengths Service WRITE = refl
number_lengths Service ALLOC = refl
number_lengths Service CREATE = refl
number_lengths Service DELETE = refl
number_lengths Service KEY-READ = refl
number_lengths Service RENEW = refl
number_lengths Service FORCE = refl
number_lengths Service FREE = refl
number_lengths Service TICK = refl
number_lengths Service AUDIT = refl
number_lengths Service ALLOC-CONTIG = refl
number_lengths Service KEY-WRITE = refl
number_lengths Service DELETE-TREE = refl

pub kind_lengths : (wire : Port) (kind : ℕ) {port : Port} {name : Name} {l : Lengths} → Some (port, name) ≡ kind_of wire kind → l ≡ lengths_at kind
    → l ≡ lengths_of name
kind_lengths wire kind {port = port} {name = name} e h = h ∙ ap lengths_at (kind_number_law wire kind (sym e)) ∙ number_lengths port name
