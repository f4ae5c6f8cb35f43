-- `records::decode_call` meets its contract: an arm for each call.
use native.Mathlib.Omega.{arith}
use mathlib.Core.Path.{ap, ◌∙◌}
use Rattle.card.specs.declared.Call.TheVariants.{Read, Write, Alloc, AllocContig, Create, Delete, DeleteTree, KeyRead, KeyWrite}
use Rattle.decoding.specs.Decode.{call_of, decode_call}
use Rattle.decoding.proofs.DecodeLaws.{room}
use Rattle.lengths.proofs.Table.{table_rules}
use Rattle.records.proofs.Parsing.{refused}
use Rattle.records.proofs.decode_call.Goals as goal

pub decode_transfer-requires : goal.decode_transfer-requires
unfolding table_rules
decode_transfer-requires c = room c.in-Read.is c.requires

pub returns-in_err-decode_transfer-in-Read : goal.returns-in_err-decode_transfer-in-Read
unfolding decode_call call_of
returns-in_err-decode_transfer-in-Read c = rw c.in-Read.is (refused c.from_residual.result c.from_residual.ensures.0 ∙ ap (call_of c.args.port Read) c.in_err-decode_transfer-in-Read.ensures)

pub returns-in_ok-decode_transfer-in-Read : goal.returns-in_ok-decode_transfer-in-Read
unfolding decode_call call_of
returns-in_ok-decode_transfer-in-Read c = rw c.in-Read.is (ap (call_of c.args.port Read) c.in_ok-decode_transfer-in-Read.ensures)

pub decode_transfer-requires-in-Write : goal.decode_transfer-requires-in-Write
unfolding table_rules
decode_transfer-requires-in-Write c = omega (arith, room c.in-Write.is c.requires)

pub returns-in_err-decode_transfer-in-Write : goal.returns-in_err-decode_transfer-in-Write
unfolding decode_call call_of
returns-in_err-decode_transfer-in-Write c = rw c.in-Write.is (refused c.from_residual-in_err-decode_transfer-in-Write.result c.from_residual-in_err-decode_transfer-in-Write.ensures.0 ∙ ap (call_of c.args.port Write) c.in_err-decode_transfer-in-Write.ensures)

pub returns-in_ok-decode_transfer-in-Write : goal.returns-in_ok-decode_transfer-in-Write
unfolding decode_call call_of
returns-in_ok-decode_transfer-in-Write c = rw c.in-Write.is (ap (call_of c.args.port Write) c.in_ok-decode_transfer-in-Write.ensures)

pub decode_alloc-requires : goal.decode_alloc-requires
unfolding table_rules
decode_alloc-requires c = room c.in-Alloc.is c.requires

pub returns-in_err-decode_alloc-in-Alloc : goal.returns-in_err-decode_alloc-in-Alloc
unfolding decode_call call_of
returns-in_err-decode_alloc-in-Alloc c = rw c.in-Alloc.is (refused c.from_residual-in_err-decode_alloc-in-Alloc.result c.from_residual-in_err-decode_alloc-in-Alloc.ensures.0 ∙ ap (call_of c.args.port Alloc) c.in_err-decode_alloc-in-Alloc.ensures)

pub returns-in_ok-decode_alloc-in-Alloc : goal.returns-in_ok-decode_alloc-in-Alloc
unfolding decode_call call_of
returns-in_ok-decode_alloc-in-Alloc c = rw c.in-Alloc.is (ap (call_of c.args.port Alloc) c.in_ok-decode_alloc-in-Alloc.ensures)

pub decode_create-requires : goal.decode_create-requires
unfolding table_rules
decode_create-requires c = room c.in-Create.is c.requires

pub returns-in_err-decode_create-in-Create : goal.returns-in_err-decode_create-in-Create
unfolding decode_call call_of
returns-in_err-decode_create-in-Create c = rw c.in-Create.is (refused c.from_residual-in_err-decode_create-in-Create.result c.from_residual-in_err-decode_create-in-Create.ensures.0 ∙ ap (call_of c.args.port Create) c.in_err-decode_create-in-Create.ensures)

pub returns-in_ok-decode_create-in-Create : goal.returns-in_ok-decode_create-in-Create
unfolding decode_call call_of
returns-in_ok-decode_create-in-Create c = rw c.in-Create.is (ap (call_of c.args.port Create) c.in_ok-decode_create-in-Create.ensures)

pub decode_delete-requires : goal.decode_delete-requires
unfolding table_rules
decode_delete-requires c = room c.in-Delete.is c.requires

pub returns-in_err-decode_delete-in-Delete : goal.returns-in_err-decode_delete-in-Delete
unfolding decode_call call_of
returns-in_err-decode_delete-in-Delete c = rw c.in-Delete.is (refused c.from_residual-in_err-decode_delete-in-Delete.result c.from_residual-in_err-decode_delete-in-Delete.ensures.0 ∙ ap (call_of c.args.port Delete) c.in_err-decode_delete-in-Delete.ensures)

pub returns-in_ok-decode_delete-in-Delete : goal.returns-in_ok-decode_delete-in-Delete
unfolding decode_call call_of
returns-in_ok-decode_delete-in-Delete c = rw c.in-Delete.is (ap (call_of c.args.port Delete) c.in_ok-decode_delete-in-Delete.ensures)

pub decode_key-requires : goal.decode_key-requires
unfolding table_rules
decode_key-requires c = room c.in-KeyRead.is c.requires

pub returns-in_err-decode_key-in-KeyRead : goal.returns-in_err-decode_key-in-KeyRead
unfolding decode_call call_of
returns-in_err-decode_key-in-KeyRead c = rw c.in-KeyRead.is (refused c.from_residual-in_err-decode_key-in-KeyRead.result c.from_residual-in_err-decode_key-in-KeyRead.ensures.0 ∙ ap (call_of c.args.port KeyRead) c.in_err-decode_key-in-KeyRead.ensures)

pub returns-in_ok-decode_key-in-KeyRead : goal.returns-in_ok-decode_key-in-KeyRead
unfolding decode_call call_of
returns-in_ok-decode_key-in-KeyRead c = rw c.in-KeyRead.is (ap (call_of c.args.port KeyRead) c.in_ok-decode_key-in-KeyRead.ensures)

pub decode_renew-requires : goal.decode_renew-requires
unfolding table_rules
decode_renew-requires c = room c.in-Renew.is c.requires

pub returns-in-Renew : goal.returns-in-Renew
returns-in-Renew c = rw c.in-Renew.is (c.decode_renew.ensures c.args.port)

pub two-requires : goal.two-requires
unfolding table_rules
two-requires c = room c.in-Force.is c.requires

pub returns-in-Force : goal.returns-in-Force
unfolding decode_call
returns-in-Force c = rw (c.in-Force.is, c.two.ensures)

pub returns-in-Free : goal.returns-in-Free
unfolding decode_call
returns-in-Free c = rw c.in-Free.is

pub eight-requires : goal.eight-requires
unfolding table_rules
eight-requires c = room c.in-Tick.is c.requires

pub returns-in-Tick : goal.returns-in-Tick
unfolding decode_call
returns-in-Tick c = rw (c.in-Tick.is, c.eight.ensures)

pub returns-in-Audit : goal.returns-in-Audit
unfolding decode_call
returns-in-Audit c = rw c.in-Audit.is

pub decode_alloc-requires-in-AllocContig : goal.decode_alloc-requires-in-AllocContig
unfolding table_rules
decode_alloc-requires-in-AllocContig c = room c.in-AllocContig.is c.requires

pub returns-in_err-decode_alloc-in-AllocContig : goal.returns-in_err-decode_alloc-in-AllocContig
unfolding decode_call call_of
returns-in_err-decode_alloc-in-AllocContig c = rw c.in-AllocContig.is (refused c.from_residual-in_err-decode_alloc-in-AllocContig.result c.from_residual-in_err-decode_alloc-in-AllocContig.ensures.0 ∙ ap (call_of c.args.port AllocContig) c.in_err-decode_alloc-in-AllocContig.ensures)

pub returns-in_ok-decode_alloc-in-AllocContig : goal.returns-in_ok-decode_alloc-in-AllocContig
unfolding decode_call call_of
returns-in_ok-decode_alloc-in-AllocContig c = rw c.in-AllocContig.is (ap (call_of c.args.port AllocContig) c.in_ok-decode_alloc-in-AllocContig.ensures)

pub decode_key-requires-in-KeyWrite : goal.decode_key-requires-in-KeyWrite
unfolding table_rules
decode_key-requires-in-KeyWrite c = room c.in-KeyWrite.is c.requires

pub returns-in_err-decode_key-in-KeyWrite : goal.returns-in_err-decode_key-in-KeyWrite
unfolding decode_call call_of
returns-in_err-decode_key-in-KeyWrite c = rw c.in-KeyWrite.is (refused c.from_residual-in_err-decode_key-in-KeyWrite.result c.from_residual-in_err-decode_key-in-KeyWrite.ensures.0 ∙ ap (call_of c.args.port KeyWrite) c.in_err-decode_key-in-KeyWrite.ensures)

pub returns-in_ok-decode_key-in-KeyWrite : goal.returns-in_ok-decode_key-in-KeyWrite
unfolding decode_call call_of
returns-in_ok-decode_key-in-KeyWrite c = rw c.in-KeyWrite.is (ap (call_of c.args.port KeyWrite) c.in_ok-decode_key-in-KeyWrite.ensures)

pub decode_delete-requires-in-DeleteTree : goal.decode_delete-requires-in-DeleteTree
unfolding table_rules
decode_delete-requires-in-DeleteTree c = room c.in-DeleteTree.is c.requires

pub returns-in_err-decode_delete-in-DeleteTree : goal.returns-in_err-decode_delete-in-DeleteTree
unfolding decode_call call_of
returns-in_err-decode_delete-in-DeleteTree c = rw c.in-DeleteTree.is (refused c.from_residual-in_err-decode_delete-in-DeleteTree.result c.from_residual-in_err-decode_delete-in-DeleteTree.ensures.0 ∙ ap (call_of c.args.port DeleteTree) c.in_err-decode_delete-in-DeleteTree.ensures)

pub returns-in_ok-decode_delete-in-DeleteTree : goal.returns-in_ok-decode_delete-in-DeleteTree
unfolding decode_call call_of
returns-in_ok-decode_delete-in-DeleteTree c = rw c.in-DeleteTree.is (ap (call_of c.args.port DeleteTree) c.in_ok-decode_delete-in-DeleteTree.ensures)
