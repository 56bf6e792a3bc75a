-- The row of a device. The rows of its model's name are tried in order up to the first whose tests all hold, and each row's tests from the left up to the
-- first that doesn't. A test reached so whose parameter is a word ends the search. Of several parameters of one name, without regard to case, the last
-- counts, and a test of a missing one doesn't hold.
use Rattle.std.specs.Prelude.{ℕ, ◌+◌, Bool, if◌then◌else◌, List, [], ◌∷◌, drop, reverse, find, Option, Some, None, ℤ, int_lt, int_le}
use Rattle.std.specs.Str.{bytes_eq, str_eq_ignore_ascii_case}
use Rattle.cvc_base.specs.declared.param.Param.{Param}
use Rattle.cvc_base.specs.declared.param.Value.{Value}
use Rattle.cvc_base.specs.declared.param.Value.TheVariants.{Number, Word as AWord}
use Rattle.cvc_model.specs.declared.choosing.Outcome.{Outcome}
use Rattle.cvc_model.specs.declared.choosing.Outcome.TheVariants.{Holds, Fails, Word}
use Rattle.cvc_model.specs.declared.models.Choice.{Choice}
use Rattle.cvc_model.specs.declared.models.Choice.TheVariants.{Chosen, Nothing, WordMet}
use Rattle.cvc_model.specs.declared.row.Test.{Test}
use Rattle.cvc_model.specs.declared.row.ModelRow.{ModelRow}

-- ## Tests

-- less than the test's number, or at least that number
abbrev pub passes : Test → ℤ → Bool
passes test n = if test.less then int_lt n test.number else int_le test.number n

abbrev pub outcome_at : Test → Value → Outcome
outcome_at test (Number n) = if passes test n then Holds else Fails
outcome_at test (AWord text) = Word

abbrev pub is_named : List ℕ → Param → Bool
is_named name param = str_eq_ignore_ascii_case param.name name

-- the last parameter of a name
abbrev pub last_named : List Param → List ℕ → Option Param
last_named params name = find (is_named name) (reverse params)

abbrev pub outcome_if_any : Test → Option Param → Outcome
outcome_if_any test None = Fails
outcome_if_any test (Some param) = outcome_at test param.value

abbrev pub outcome_of_test : Test → List Param → Outcome
outcome_of_test test params = outcome_if_any test (last_named params test.param)

abbrev pub while_holds : Outcome → Outcome → Outcome
while_holds Holds next = next
while_holds Fails next = Fails
while_holds Word next = Word

-- the first test that doesn't hold decides
unfoldable pub outcome_of : List Test → List Param → Outcome
outcome_of [] params = Holds
outcome_of (test ∷ tests) params = while_holds (outcome_of_test test params) (outcome_of tests params)

-- ## Rows

-- the row at a place by its tests, or what the later rows give
abbrev pub choice_at : ℕ → Outcome → Choice → Choice
choice_at place Holds later = Chosen place
choice_at place Fails later = later
choice_at place Word later = WordMet

-- the choice among the rows from a place on
unfoldable pub choice_from : List Param → List ℕ → ℕ → List ModelRow → Choice
choice_from params name place [] = Nothing
choice_from params name place (row ∷ rows) =
    if bytes_eq name row.name then choice_at place (outcome_of row.tests params) (choice_from params name (place + 1) rows) else choice_from params name (place + 1) rows

-- the choice of a device of this model's name with these parameters
abbrev pub choice_of : List ModelRow → List ℕ → List Param → Choice
choice_of rows name params = choice_from params name 0 rows

-- the place of the first row of a name, from a place on
unfoldable pub first_from : List ℕ → ℕ → List ModelRow → Option ℕ
first_from name place [] = None
first_from name place (row ∷ rows) = if bytes_eq name row.name then Some place else first_from name (place + 1) rows

abbrev pub next_place : List ModelRow → List ℕ → ℕ → Option ℕ
next_place rows name place = first_from name place (drop place rows)
