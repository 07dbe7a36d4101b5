use Rattle.std.proofs.Common.{arith}
use Rattle.std.proofs.lemmas.List.{length-map}
use Rattle.snap_scope.proofs.Apart.{names_more, refused, slots_more}
use Rattle.snap_scope.proofs.NarrowNames.{item_narrow}
use Rattle.snap_scope.specs.Names.{all_declared, declared_of}
use Rattle.spec_scopes.proofs.Firsts.{none_is}
use Rattle.spec_scopes.specs.Told.{repeat_at}
use Rattle.snap_scope.proofs.declare.slots_of.Goals as goal

pub returns-clause-apart : goal.returns-clause-apart
returns-clause-apart c =
    let names = all_declared c.args.names.now in
    none_is (repeat_at names) names (λ place name less at. c.loop-name.invariant.apart place name (omega (arith, length-map c.args.names.now declared_of)) at)

pub returns-in-Err-declare-clause-err : goal.returns-in-Err-declare-clause-err
returns-in-Err-declare-clause-err c =
    refused c.args.names.now c.loop-name.name-index c.name-item.result c.loop-name.slots c.in-Err-declare.fault (omega arith) c.name-item.is c.loop-name.invariant.slots c.loop-name.invariant.apart c.in-Err-declare.ensures.err

pub loop-name-preserved : goal.loop-name-preserved
loop-name-preserved c = record {
  slots = slots_more c.args.names.now c.loop-name.name-index c.name-item.result c.loop-name.slots c.declare.new.slots (omega arith) c.name-item.is c.loop-name.invariant.slots c.in-Ok-declare.ensures.ok;
  apart = names_more c.args.names.now c.loop-name.name-index c.name-item.result c.loop-name.slots (omega arith) c.name-item.is c.loop-name.invariant.slots c.loop-name.invariant.apart c.in-Ok-declare.ensures.apart;
}

pub declare-requires : goal.declare-requires
declare-requires c = item_narrow c.args.names.now c.loop-name.name-index c.name-item.result (omega arith) c.name-item.is c.requires
