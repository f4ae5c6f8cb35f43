-- Laws of the kinds: those of the host port are a host's, each is its call's, and a body is its operands and then its data.
use Rattle.std.specs.Prelude.{ℕ, ◌+◌, ◌≤◌, ◌≡◌, refl, Bool, true, false, cond, List, [], ◌∷◌, eqb, Option, Some, None}
use Rattle.std.proofs.Common.{arith, eqb-true, sym, ap, ◌∙◌}
use Rattle.card.specs.declared.Port.{Port}
use Rattle.card.specs.declared.Port.TheVariants.{Host, Service}
use Rattle.kinds.specs.Kinds.{row, names, kind_number, length_of, data_length, operands_length, among, kind_of}
use Rattle.kinds.specs.declared.Name.{Name}
use Rattle.kinds.specs.declared.Name.TheVariants.{Read as READ, Write as WRITE, Alloc as ALLOC, Create as CREATE, Delete as DELETE, KeyRead as KEY-READ, Renew as RENEW, Force as FORCE, Free as FREE, Tick as TICK, Audit as AUDIT, AllocContig as ALLOC-CONTIG, KeyWrite as KEY-WRITE, DeleteTree as DELETE-TREE}

-- ---- the call of a kind

-- What follows from a call found among those of a port, or from the other answer, follows from what was found.
among_known : (kind : ℕ) (at : Port) (ns : List Name) {other : Option (Port × Name)} {port : Port} {name : Name} {P : Type 0}
    → (other ≡ Some (port, name) → P) → (port ≡ at → kind ≡ kind_number port name → P) → among kind at ns other ≡ Some (port, name) → P
unfolding among
among_known kind at [] else here e = else e
among_known kind at (n ∷ ns) {other} {port} {name} {P} else here e = go (eqb kind (kind_number at n)) refl (among_known kind at ns else here) e
  where
    go : (t : Bool) → eqb kind (kind_number at n) ≡ t → (among kind at ns other ≡ Some (port, name) → P) → cond t (Some (at, n)) (among kind at ns other) ≡ Some (port, name) → P
    go true q rest h =
        let pair : ◌≡◌ {A = Port × Name} (port, name) (at, n) = cc in
        let same : port ≡ at = ap (λ (p : Port × Name). p.0) pair in
        let number : kind ≡ kind_number port name = eqb-true _ _ q ∙ sym (ap (λ (p : Port × Name). kind_number p.0 p.1) pair) in
        here same number
    go false q rest h = rest h

unknown_apart : {port : Port} {name : Name} {P : Type 0} → ◌≡◌ {A = Option (Port × Name)} None (Some (port, name)) → P
unknown_apart e = let z : ◌≡◌ {A = ℕ} 0 1 = cc in absurd (omega arith)

-- Every kind that exists at the host port is a call at the host port.
pub host_kinds : (kind : ℕ) {port : Port} {name : Name} → kind_of Host kind ≡ Some (port, name) → port ≡ Host
unfolding kind_of
host_kinds kind e = among_known kind Host (names Host) unknown_apart (λ q n. q) e

-- A kind is that of its call at its port.
pub kind_number_law : (wire : Port) (kind : ℕ) {port : Port} {name : Name} → kind_of wire kind ≡ Some (port, name) → kind ≡ kind_number port name
unfolding kind_of
kind_number_law Host kind e = among_known kind Host (names Host) unknown_apart (λ q n. n) e
kind_number_law Service kind e =
    among_known kind Host (names Host) (among_known kind Service (names Service) unknown_apart (λ q n. n)) (λ q n. n) e

-- ---- operands and data

data_most : (name : Name) → data_length name ≤ length_of name
unfolding length_of data_length row
data_most READ = omega arith
data_most WRITE = omega arith
data_most ALLOC = omega arith
data_most CREATE = omega arith
data_most DELETE = omega arith
data_most KEY-READ = omega arith
data_most RENEW = omega arith
data_most FORCE = omega arith
data_most FREE = omega arith
data_most TICK = omega arith
data_most AUDIT = omega arith
data_most ALLOC-CONTIG = omega arith
data_most KEY-WRITE = omega arith
data_most DELETE-TREE = omega arith

pub parts : (name : Name) → operands_length name + data_length name ≡ length_of name
unfolding operands_length
parts name = omega (arith, data_most name)
