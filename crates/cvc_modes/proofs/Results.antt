-- What is found in each mode, from what each task gave.
use Rattle.std.proofs.Common.{◌≡◌, ℕ, suc, ◌<◌, List, [], ◌∷◌, length, map, Result, Ok, Err, All, sym, ap, subst, ◌∙◌, arith}
use Rattle.std.specs.Prelude.{IfOk, slice_index_or}
use Rattle.std.proofs.lemmas.List.Elements.{All-nil, All-cons, All-head, All-tail}
use Rattle.cvc_judge.specs.Judged.{IsJudged}
use Rattle.cvc_judge.specs.declared.judged.Judged.{Judged}
use Rattle.cvc_law.specs.Network.{Network}
use Rattle.cvc_modes.specs.declared.check.Task.{Task}
use Rattle.cvc_modes.specs.Checked.{circuit_in}
use Rattle.cvc_modes.specs.Tasks.{IsResult, circuit_to_settle}

pub record AreResults (tasks : List Task) (rs : List Judged) : Type 0 where
  pub kept : map circuit_in rs ≡ map circuit_to_settle tasks
  pub judged : All IsJudged rs

pub results_are : {E : Type 0} → (tasks : List Task) (rs : List Judged) (checked : List (Result Judged E)) → length checked ≡ length tasks → checked ≡ map (λ r. Ok r) rs
    → ((i : ℕ) (d : Result Judged E) (t : Task) → i < length tasks → IfOk (slice_index_or checked i d) (IsResult (slice_index_or tasks i t).circuit)) → AreResults tasks rs
results_are [] [] checked long are each = record { kept = λ i. []; judged = All-nil IsJudged }
results_are [] (r ∷ rs) checked long are each = absurd (let same : length checked ≡ suc (length (map (λ (x : Judged). Ok x) rs)) = ap length are in omega arith)
results_are (t ∷ tasks) [] checked long are each = absurd (let same : length checked ≡ 0 = ap length are in omega arith)
results_are {E = E} (t ∷ tasks) (r ∷ rs) [] long are each = absurd (omega arith)
results_are {E = E} (t ∷ tasks) (r ∷ rs) (x ∷ xs) long are each =
    let first : x ≡ Ok r = cc in
    let later : xs ≡ map (λ (y : Judged). Ok y) rs = cc in
    let P : Result Judged E → Type 0 = λ y. IfOk y (IsResult t.circuit) in
    let one : IsResult t.circuit r = subst P first (each 0 x t (omega arith)) in
    let rest : AreResults tasks rs = results_are tasks rs xs (omega arith) later (λ i d u lt. each (suc i) d u (omega arith)) in
    record { kept = λ i. one.kept i ∷ rest.kept i; judged = All-cons IsJudged r rs one.judged rest.judged }

-- what holds of the circuits of the tasks holds of those of the results
pub kept_all : (P : Network → Type 0) (tasks : List Task) (rs : List Judged) → map circuit_in rs ≡ map circuit_to_settle tasks → All (λ t. P t.circuit) tasks → All (λ r. P r.circuit) rs
kept_all P [] [] same all = All-nil (λ r. P r.circuit)
kept_all P [] (r ∷ rs) same all = absurd (let size : suc (length (map circuit_in rs)) ≡ 0 = ap length same in omega arith)
kept_all P (t ∷ tasks) [] same all = All-nil (λ r. P r.circuit)
kept_all P (t ∷ tasks) (r ∷ rs) same all =
    let first : r.circuit ≡ t.circuit = cc in
    let later : map circuit_in rs ≡ map circuit_to_settle tasks = cc in
    All-cons (λ r. P r.circuit) r rs (subst P (sym first) (All-head (λ t. P t.circuit) t tasks all)) (kept_all P tasks rs later (All-tail (λ t. P t.circuit) t tasks all))
