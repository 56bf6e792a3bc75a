use Rattle.std.proofs.Common.{◌≡◌, List, ℕ, [], Some, subst}
use Rattle.cvc_io.specs.Bytes.{WritesText}
use Rattle.cvc_chain.specs.Matching.{told, told_of, taken_of, wanted_of, faults_of}
use Rattle.cvc_report.specs.Report.{report}
use Rattle.cvc_chain.proofs.Matches.{sent}
use Rattle.cvc_chain.proofs.matching.first_difference.Goals as goal

pub returns-clause-none : goal.returns-clause-none
returns-clause-none c = let k = c.new-sink.ensures in
    let start : told_of c.new-sink.result ≡ told c.args.wanted.now [] = λ i. told (k.wanted i) (k.taken i) in
    (sent c.args.wanted.now (report c.args.circuit.now c.args.flat.now.list c.args.family.now c.args.with_nets) (wanted_of c.write_report.new.sink) (taken_of c.write_report.new.sink) c.difference.result c.difference.ensures.none c.difference.ensures.some (faults_of c.new-sink.result) (faults_of c.write_report.new.sink) k.faults c.difference.ensures.failed
    c.write_report.result (subst (λ (l : List ℕ). WritesText (Some l) (Some (told_of c.write_report.new.sink)) c.write_report.result (report c.args.circuit.now c.args.flat.now.list c.args.family.now c.args.with_nets)) start c.write_report.ensures.written) c.write_report.ensures.cause).0

pub returns-clause-some : goal.returns-clause-some
returns-clause-some c = let k = c.new-sink.ensures in
    let start : told_of c.new-sink.result ≡ told c.args.wanted.now [] = λ i. told (k.wanted i) (k.taken i) in
    (sent c.args.wanted.now (report c.args.circuit.now c.args.flat.now.list c.args.family.now c.args.with_nets) (wanted_of c.write_report.new.sink) (taken_of c.write_report.new.sink) c.difference.result c.difference.ensures.none c.difference.ensures.some (faults_of c.new-sink.result) (faults_of c.write_report.new.sink) k.faults c.difference.ensures.failed
    c.write_report.result (subst (λ (l : List ℕ). WritesText (Some l) (Some (told_of c.write_report.new.sink)) c.write_report.result (report c.args.circuit.now c.args.flat.now.list c.args.family.now c.args.with_nets)) start c.write_report.ensures.written) c.write_report.ensures.cause).1
