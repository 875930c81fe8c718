-- The terms of a transaction's answers (this project's own; {aborted, Reason} and {atomic, Value} are those of the Mnesia
-- Reference Manual, mnesia:transaction/1).
use Rattle.std.specs.Prelude.{List, [], ◌∷◌, codes}
use Rattle.tab_term.specs.Data.{PlainTerm, atom, list, pair, PlainTerms, none, one_more}
use Rattle.tab_term.specs.View.{term}
use Rattle.tab_lists.specs.declared.answers.Answer.{Answer}
use Rattle.tab_lists.specs.declared.answers.Answer.TheVariants as is

-- `ok`, a list of records or keys, {aborted, Reason}, or {atomic, Answers} of a child that is committed
abbrev pub answer_term : Answer → PlainTerm
answer_term is.Done = atom (codes "ok")
answer_term (is.Found rows) = list rows
answer_term (is.Aborted reason) = pair (atom (codes "aborted")) (term reason)
answer_term (is.Atomic inner) = pair (atom (codes "atomic")) (list inner)

-- the terms of these answers, in their order
abbrev pub answers : List Answer → PlainTerms
answers [] = none
answers (x ∷ xs) = one_more (answer_term x) (answers xs)
