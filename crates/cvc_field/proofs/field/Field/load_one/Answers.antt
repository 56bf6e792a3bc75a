use Rattle.std.proofs.Common.{◌%◌, arith}
use Rattle.cvc_field.proofs.Bounds.{within_words}
use Rattle.std.proofs.Common.{ℕ, ◌+◌, set, subst, sym}
use Rattle.cvc_field.specs.Runs.{IsLoading}
use Rattle.cvc_field.proofs.Loading.{may_load, loads_at, loading_loads}
use Rattle.cvc_field.proofs.field.Field.load_one.Goals as goal

pub load-word-requires-clause-bound : goal.load-word-requires-clause-bound
load-word-requires-clause-bound c = (c.read_place-place.ensures.inside, loads_at c.args.self.now.circuit.now c.args.d c.args.read c.read_place-place.result c.args.bounds.now c.args.seat.now.me.0.actor c.read_place-place.ensures.place c.requires.loading)

pub load-word-requires-clause-allowed : goal.load-word-requires-clause-allowed
load-word-requires-clause-allowed c = may_load c.args.self.now.circuit.now c.args.d c.args.read c.args.bounds.now c.args.seat.now.me.0.actor c.requires.read c.requires.loading

pub returns-clause-loading : goal.returns-clause-loading
returns-clause-loading c = subst (λ (i : ℕ). IsLoading c.args.self.now.circuit.now c.args.d (c.args.read + 1) (set c.args.bounds.now i c.bound_in.result) c.load-word.new.seat.me.0.actor) (sym c.from.ensures)
    (loading_loads c.args.self.now.circuit.now c.args.d c.args.read c.read_place-place.result c.load-word.result c.args.bounds.now c.bound_in.result c.args.seat.now.me.0 c.load-word.new.seat.me.0 c.requires.seat.2 c.requires.few c.load-word.ensures.step c.read_place-place.ensures.place c.bound_in.ensures c.load-word.ensures.word c.requires.loading)

pub bound_in-requires : goal.bound_in-requires
bound_in-requires c = within_words c.args.self.now.circuit.now (c.read_place-place.result % 2) c.load-word.result (omega arith) c.load-word.ensures.word
