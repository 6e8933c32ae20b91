use Rattle.std.proofs.Common.{◌∙◌, ap, sym}
use Rattle.cstar_tree.specs.Headers.{a_result}
use Rattle.type_scopes.proofs.HeaderLemmas.{an_int, part_typed}
use Rattle.type_scopes.proofs.HeaderFaults.{result_records, type_records}
use Rattle.type_scopes.proofs.file.File.returns.Goals as goal

pub returns-in-Unwritten-clause-result_type : goal.returns-in-Unwritten-clause-result_type
returns-in-Unwritten-clause-result_type c here kept = rw c.in-Unwritten.is (an_int _)

pub returns-in-Some-clause-result_type : goal.returns-in-Some-clause-result_type
returns-in-Some-clause-result_type c here kept =
    let typed = part_typed here c.in-Written.written c.header_type.result (c.header_type.ensures here kept) in
    rw c.in-Written.is (ap a_result (sym c.in-Some.is ∙ (c.in_ok-ty-in-Written.ensures.part ∙ typed)))

pub returns-in-None-clause-result_type : goal.returns-in-None-clause-result_type
returns-in-None-clause-result_type c here kept =
    let typed = part_typed here c.in-Written.written c.header_type.result (c.header_type.ensures here kept) in
    rw c.in-Written.is (ap a_result (sym c.in-None.is ∙ (c.in_ok-ty-in-Written.ensures.part ∙ typed)))

pub returns-in-Some-clause-faults : goal.returns-in-Some-clause-faults
returns-in-Some-clause-faults c here kept = result_records here c.args.written.now c.in-Written.written c.args.faults.now.least c.settle.new.self.least c.in-Written.is (type_records here c.in-Written.written c.header_type.result c.args.faults.now.least c.settle.new.self.least (c.header_type.ensures here kept) c.in_ok-ty-in-Written.ensures.least)

pub returns-in-None-clause-faults : goal.returns-in-None-clause-faults
returns-in-None-clause-faults c here kept = result_records here c.args.written.now c.in-Written.written c.args.faults.now.least c.settle.new.self.least c.in-Written.is (type_records here c.in-Written.written c.header_type.result c.args.faults.now.least c.settle.new.self.least (c.header_type.ensures here kept) c.in_ok-ty-in-Written.ensures.least)
