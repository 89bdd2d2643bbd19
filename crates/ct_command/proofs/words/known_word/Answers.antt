use Rattle.std.proofs.Common.{◌≡◌, ◌++◌, ℕ, List, Option, None}
use Rattle.ct_command.specs.declared.words.Word.{Word}
use Rattle.ct_command.specs.Tables.{beside}
use Rattle.ct_command.specs.Reading.{words, setting_words, sort_words, function_words, session_words, answer_words, unsupported_words, last_words}
use Rattle.ct_command.proofs.WordLemmas.{found, skip}
use Rattle.ct_command.proofs.words.known_word.Goals as goal

-- the tables after each of them
abbrev after_answer : List (List ℕ × Word)
after_answer = unsupported_words ++ last_words

abbrev after_session : List (List ℕ × Word)
after_session = answer_words ++ after_answer

abbrev after_function : List (List ℕ × Word)
after_function = session_words ++ after_session

abbrev after_sort : List (List ℕ × Word)
after_sort = function_words ++ after_function

abbrev after_setting : List (List ℕ × Word)
after_setting = sort_words ++ after_sort

-- a word that stands in none of the first tables
module _ (word : List ℕ) (answer : Option Word) where
  past_setting : None ≡ beside setting_words word → answer ≡ beside after_setting word → answer ≡ beside words word
  past_setting no_setting e = skip after_setting word setting_words answer no_setting e

  past_sort : None ≡ beside setting_words word → None ≡ beside sort_words word → answer ≡ beside after_sort word → answer ≡ beside words word
  past_sort no_setting no_sort e = past_setting no_setting (skip after_sort word sort_words answer no_sort e)

  past_function : None ≡ beside setting_words word → None ≡ beside sort_words word → None ≡ beside function_words word → answer ≡ beside after_function word → answer ≡ beside words word
  past_function no_setting no_sort no_function e = past_sort no_setting no_sort (skip after_function word function_words answer no_function e)

  past_session : None ≡ beside setting_words word → None ≡ beside sort_words word → None ≡ beside function_words word → None ≡ beside session_words word → answer ≡ beside after_session word → answer ≡ beside words word
  past_session no_setting no_sort no_function no_session e = past_function no_setting no_sort no_function (skip after_session word session_words answer no_session e)

  past_answer : None ≡ beside setting_words word → None ≡ beside sort_words word → None ≡ beside function_words word → None ≡ beside session_words word → None ≡ beside answer_words word → answer ≡ beside after_answer word → answer ≡ beside words word
  past_answer no_setting no_sort no_function no_session no_answer e = past_session no_setting no_sort no_function no_session (skip after_answer word answer_words answer no_answer e)

  past_unsupported : None ≡ beside setting_words word → None ≡ beside sort_words word → None ≡ beside function_words word → None ≡ beside session_words word → None ≡ beside answer_words word → None ≡ beside unsupported_words word → answer ≡ beside last_words word → answer ≡ beside words word
  past_unsupported no_setting no_sort no_function no_session no_answer supported e = past_answer no_setting no_sort no_function no_session no_answer (skip last_words word unsupported_words answer supported e)

pub returns-in-Some : goal.returns-in-Some
returns-in-Some c = record { value = found after_setting c.args.word.now setting_words c.in-Some.known c.in-Some.ensures.value }

pub returns-in-Some-sort_word : goal.returns-in-Some-sort_word
returns-in-Some-sort_word c = record { value = past_setting c.args.word.now _ c.in_default.ensures.value (found after_sort c.args.word.now sort_words c.in-Some-sort_word.known c.in-Some-sort_word.ensures.value) }

pub returns-in-Some-function_word : goal.returns-in-Some-function_word
returns-in-Some-function_word c = record { value = past_sort c.args.word.now _ c.in_default.ensures.value c.in_default-sort_word.ensures.value (found after_function c.args.word.now function_words c.in-Some-function_word.known c.in-Some-function_word.ensures.value) }

pub returns-in-Some-session_word : goal.returns-in-Some-session_word
returns-in-Some-session_word c = record { value = past_function c.args.word.now _ c.in_default.ensures.value c.in_default-sort_word.ensures.value c.in_default-function_word.ensures.value (found after_session c.args.word.now session_words c.in-Some-session_word.known c.in-Some-session_word.ensures.value) }

pub returns-in-Some-answer_word : goal.returns-in-Some-answer_word
returns-in-Some-answer_word c = record { value = past_session c.args.word.now _ c.in_default.ensures.value c.in_default-sort_word.ensures.value c.in_default-function_word.ensures.value c.in_default-session_word.ensures.value (found after_answer c.args.word.now answer_words c.in-Some-answer_word.known c.in-Some-answer_word.ensures.value) }

pub returns-in-Some-unsupported_word : goal.returns-in-Some-unsupported_word
returns-in-Some-unsupported_word c = record { value = past_answer c.args.word.now _ c.in_default.ensures.value c.in_default-sort_word.ensures.value c.in_default-function_word.ensures.value c.in_default-session_word.ensures.value c.in_default-answer_word.ensures.value (found last_words c.args.word.now unsupported_words c.in-Some-unsupported_word.known c.in-Some-unsupported_word.ensures.value) }

pub returns : goal.returns
returns c = record { value = past_unsupported c.args.word.now _ c.in_default.ensures.value c.in_default-sort_word.ensures.value c.in_default-function_word.ensures.value c.in_default-session_word.ensures.value c.in_default-answer_word.ensures.value c.in_default-unsupported_word.ensures.value c.last_word.ensures.value }
