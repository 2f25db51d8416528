-- What an automaton waits for, by the verdict that it gave.
use Rattle.scan_nums.specs.declared.verdict.Verdict.{Verdict}
use Rattle.scan_nums.specs.declared.verdict.Verdict.TheVariants.{Need, Ask, Sub, Done, DoneBefore, Trouble, Pass}

pub data Awaited : Type 0 where
  NextToken : Awaited
  Answer : Awaited
  Resumption : Awaited
  Nothing : Awaited

abbrev pub awaited_after : Verdict → Awaited
awaited_after Need = NextToken
awaited_after (Ask quantity) = Answer
awaited_after (Sub phrase) = Answer
awaited_after (Done number) = Nothing
awaited_after (DoneBefore number back) = Nothing
awaited_after (Trouble kind) = Nothing
awaited_after (Pass kind back) = Resumption

-- a fact that holds unless the verdict is the last one
abbrev pub WhileOpen : Verdict → Type 0 → Type 0
WhileOpen Need P = P
WhileOpen (Ask quantity) P = P
WhileOpen (Sub phrase) P = P
WhileOpen (Done number) P = Unit {0}
WhileOpen (DoneBefore number back) P = Unit {0}
WhileOpen (Trouble kind) P = Unit {0}
WhileOpen (Pass kind back) P = P
