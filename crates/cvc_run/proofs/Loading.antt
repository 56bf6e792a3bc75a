-- From the answers of readers to those of loads, and from these to those of the steps of a run.
use Rattle.std.proofs.Common.{◌≡◌, ℕ, List, Option, Some, None, Result, Ok, Err, sym, ap, subst, ◌∙◌}
use Rattle.std.specs.Prelude.{IfOk, IfSome}
use Rattle.cvc_base.specs.Answers.{Gives, IfAt as IfReaderAt}
use Rattle.cvc_base.specs.declared.fault.Fault.{Fault}
use Rattle.cvc_base.specs.declared.fault.Refusal.{Refusal}
use Rattle.cvc_base.specs.declared.fault.Refusal.TheVariants as refusals
use Rattle.cvc_io.specs.Files.{Files, content}
use Rattle.cvc_run.specs.Loads.{OfContent}
use Rattle.cvc_run.specs.Stages.{at_stage}
use Rattle.cvc_run.specs.Stops.{IfAt, ReadOnlyWhere, Says, as_load, as_step, load_fault_of}
use Rattle.cvc_run.specs.declared.stage.Refused.{Refused}
use Rattle.cvc_run.specs.declared.stage.Stage.{Stage}
use Rattle.cvc_run.specs.declared.stop.RunStop.{RunStop}
use Rattle.cvc_run.specs.declared.stop.RunStop.TheVariants.{At, Read, NoMemory}
use Rattle.cvc_base.specs.Order.{◌>>=◌}

pub loads_gives : {A B : Type 0} (view : A → B) (r : Result A Refusal) (w : Result B Fault) → Gives view r w → Says view (as_load r) w
loads_gives view (Ok x) w h = h
loads_gives view (Err (refusals.At fault)) w h = h
loads_gives view (Err refusals.NoMemory) w h = tt

pub at_load : (A : Type 0) (x : Refusal) (P : Fault → Type 0) → IfReaderAt {A = Unit {0}} (Err x) P → IfAt {A = A} (Err (load_fault_of x)) P
at_load A (refusals.At fault) P h = h
at_load A refusals.NoMemory P h = tt

pub at_any : {A F : Type 0} (r : Result A (RunStop F)) (P : F → Type 0) → ((refusal : F) → P refusal) → IfAt r P
at_any (Ok x) P all = tt
at_any (Err (At refusal)) P all = all refusal
at_any (Err Read) P all = tt
at_any (Err NoMemory) P all = tt

pub ok_load : {A : Type 0} (r : Result A Refusal) (P : A → Type 0) → IfOk r P → IfOk (as_load r) P
ok_load (Ok x) P h = h
ok_load (Err refusal) P h = tt

pub of_weaker : (files : Option Files) (name : List ℕ) (P Q : List ℕ → Type 0) → ((bytes : List ℕ) → P bytes → Q bytes) → OfContent files name P → OfContent files name Q
of_weaker None name P Q f h = tt
of_weaker (Some fs) name P Q f h = f (content fs name) h

-- ## Steps

pub says_loads : {A B : Type 0} (view : A → B) (stage : Stage) (r : Result A (RunStop Fault)) (w : Result B Fault) → Says view r w → Says view (as_step stage r) (at_stage stage w)
says_loads view stage (Ok x) w h = ap (at_stage stage) h
says_loads view stage (Err (At fault)) w h = ap (at_stage stage) h
says_loads view stage (Err Read) w h = tt
says_loads view stage (Err NoMemory) w h = tt

pub read_step : {A : Type 0} (stage : Stage) (r : Result A (RunStop Fault)) (cause : Type 0) → ReadOnlyWhere r cause → ReadOnlyWhere (as_step stage r) cause
read_step stage (Ok x) cause h = tt
read_step stage (Err (At fault)) cause h = tt
read_step stage (Err Read) cause h = h
read_step stage (Err NoMemory) cause h = tt

-- a step that stops is the whole
pub says_first : {A B C D F : Type 0} (view : A → B) (other : C → D) (x : RunStop F) (w : Result B F) (next : B → Result D F) → Says view (Err x) w → Says other (Err x) (◌>>=◌ w next)
says_first view other (At refusal) w next h = ap (λ r. ◌>>=◌ r next) h
says_first view other Read w next h = tt
says_first view other NoMemory w next h = tt

-- behind a step that is accepted
pub says_next : {B C D F : Type 0} (other : C → D) (r : Result C (RunStop F)) (w : Result B F) (x : B) (next : B → Result D F) → w ≡ Ok x → Says other r (next x) → Says other r (◌>>=◌ w next)
says_next other r w x next e h = subst (λ v. Says other r (◌>>=◌ v next)) (sym e) h

-- want of memory says nothing of the files
pub unsaid : {A B F : Type 0} (view : A → B) (files : Option Files) (said : Files → Result B F) → IfSome files (λ fs. Says {A = A} {F = F} view (Err NoMemory) (said fs))
unsaid view None said = tt
unsaid view (Some fs) said = tt

-- an answer by its two clauses
pub gives_both : {A B : Type 0} (view : A → B) (r : Result A Refusal) (w : Result B Fault) → IfOk r (λ x. w ≡ Ok (view x)) → IfReaderAt r (λ fault. w ≡ Err fault) → Gives view r w
gives_both view (Ok x) w ok at = ok
gives_both view (Err (refusals.At fault)) w ok at = at
gives_both view (Err refusals.NoMemory) w ok at = tt

pub reader_at_weaker : (x : Refusal) (P Q : Fault → Type 0) → ((fault : Fault) → P fault → Q fault) → IfReaderAt {A = Unit {0}} (Err x) P → IfReaderAt {A = Unit {0}} (Err x) Q
reader_at_weaker (refusals.At fault) P Q f h = f fault h
reader_at_weaker refusals.NoMemory P Q f h = tt

-- a read fault of one answer as that of another
pub read_through : {F : Type 0} (A B : Type 0) (x : RunStop F) (P Q : Type 0) → (P → Q) → ReadOnlyWhere {A = A} (Err x) P → ReadOnlyWhere {A = B} (Err x) Q
read_through A B (At refusal) P Q f h = tt
read_through A B Read P Q f h = f h
read_through A B NoMemory P Q f h = tt

-- a read fault of a step has the cause of its load, or what follows from that
pub step_failed : {A : Type 0} (B : Type 0) (stage : Stage) (r : Result A (RunStop Fault)) (x : RunStop Refused) → Err x ≡ as_step stage r → (P Q : Type 0) → (P → Q) → ReadOnlyWhere r P → ReadOnlyWhere {A = B} (Err x) Q
step_failed {A} B stage r x e P Q f h = read_through A B x P Q f (subst (λ (v : Result A (RunStop Refused)). ReadOnlyWhere v P) (sym e) (read_step stage r P h))

-- what a reader of bytes says of its answer is said of the step's
ok_read : {A : Type 0} (stage : Stage) (r : Result A Refusal) (x : A) → Ok x ≡ as_step stage (as_load r) → r ≡ Ok x
ok_read stage (Ok y) x e = let same : x ≡ y = cc in ap Ok (sym same)
ok_read stage (Err (refusals.At fault)) x e = cc
ok_read stage (Err refusals.NoMemory) x e = cc

pub ok_in_step : {A : Type 0} (stage : Stage) (r : Result A Refusal) (l : Result A (RunStop Fault)) (x : A) (P : A → Type 0) → l ≡ as_load r → Ok x ≡ as_step stage l → IfOk r P → P x
ok_in_step {A} stage r l x P loaded e h = subst (λ (v : Result A Refusal). IfOk v P) (ok_read stage r x (e ∙ ap (as_step stage) loaded)) h

pub loads_both : {A B : Type 0} (view : A → B) (r : Result A Refusal) (l : Result A (RunStop Fault)) (w : Result B Fault) → l ≡ as_load r → IfOk r (λ x. w ≡ Ok (view x)) → IfReaderAt r (λ fault. w ≡ Err fault) → Says view l w
loads_both {A} view r l w loaded ok at = subst (λ (v : Result A (RunStop Fault)). Says view v w) (sym loaded) (loads_gives view r w (gives_both view r w ok at))

-- bytes that are there have no read fault
unread_here : {A : Type 0} (r : Result A Refusal) → ReadOnlyWhere (as_load r) ⊥
unread_here (Ok x) = tt
unread_here (Err (refusals.At fault)) = tt
unread_here (Err refusals.NoMemory) = tt

pub unread_step : {A : Type 0} (B : Type 0) (stage : Stage) (r : Result A Refusal) (l : Result A (RunStop Fault)) (x : RunStop Refused) → l ≡ as_load r → Err x ≡ as_step stage l → ReadOnlyWhere {A = B} (Err x) ⊥
unread_step {A} B stage r l x loaded e = step_failed B stage l x e ⊥ ⊥ (λ h. h) (subst (λ (v : Result A (RunStop Fault)). ReadOnlyWhere v ⊥) (sym loaded) (unread_here r))

-- what is said of a load is said of its step
step_ok : {A : Type 0} (stage : Stage) (l : Result A (RunStop Fault)) (x : A) → Ok x ≡ as_step stage l → l ≡ Ok x
step_ok stage (Ok y) x e = let same : x ≡ y = cc in ap Ok (sym same)
step_ok stage (Err (At fault)) x e = cc
step_ok stage (Err Read) x e = cc
step_ok stage (Err NoMemory) x e = cc

pub ok_of_step : {A : Type 0} (stage : Stage) (l : Result A (RunStop Fault)) (x : A) (P : A → Type 0) → Ok x ≡ as_step stage l → IfOk l P → P x
ok_of_step {A} stage l x P e h = subst (λ (v : Result A (RunStop Fault)). IfOk v P) (step_ok stage l x e) h
