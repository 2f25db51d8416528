-- What is sound of phrases: their kinds, what they have taken, what they want, and what is done for them.
use Rattle.std.specs.Prelude.{false, List, Option, Some, None}
use Rattle.std.specs.List.{AllByRecursion}
use Rattle.tokens.specs.declared.token.Token.{Token}
use Rattle.tokens.specs.declared.meaning.Macro.{Macro}
use Rattle.phrases.specs.Phrases.{Found, More, Again, Inner, Aside, Ends}
use Rattle.gullet.specs.declared.task.Task.{Task}
use Rattle.gullet.specs.declared.task.Task.TheVariants as task
use Rattle.gullet.specs.declared.task.Told.{Told}
use Rattle.gullet.specs.declared.task.Told.TheVariants as told
use Rattle.gullet.specs.declared.task.Act.{Act}
use Rattle.gullet.specs.declared.task.Act.TheVariants as act
use Rattle.gullet.specs.declared.task.Want.{Want}
use Rattle.gullet.specs.declared.task.Want.TheVariants as want
use Rattle.gullet.specs.Sound.{Known, IsSoundBeside, IsSoundToken, AreSoundTokens, IsSoundSome, IsSoundMacro, IsSoundMeaning}
use Rattle.gullet.specs.Wants.{Taken, Tok, Got, Was}

-- a kind of phrase: the token that it begins with, and the macro that is called
abbrev pub IsSoundTask : Known → Task → Type 0
IsSoundTask k task.WholeNumber = Unit {0}
IsSoundTask k (task.QuantityValue q) = Unit {0}
IsSoundTask k (task.Undefined t) = IsSoundToken k t
IsSoundTask k (task.Call name called) = IsSoundToken k name × IsSoundMacro k called
IsSoundTask k task.ExpandAfter = Unit {0}
IsSoundTask k (task.The straight) = Unit {0}
IsSoundTask k (task.NumberText numerals) = Unit {0}
IsSoundTask k (task.If asks) = Unit {0}
IsSoundTask k (task.PassOver sought) = Unit {0}
IsSoundTask k (task.BranchEnd t word) = IsSoundToken k t
IsSoundTask k task.NameText = Unit {0}
IsSoundTask k (task.Input t) = IsSoundToken k t
IsSoundTask k task.FileName = Unit {0}
IsSoundTask k (task.Text expanded) = Unit {0}
IsSoundTask k (task.Definition expanded) = Unit {0}
IsSoundTask k (task.Simple thing) = Unit {0}

abbrev pub IsSoundSomeTask : Known → Option Task → Type 0
IsSoundSomeTask k None = Unit {0}
IsSoundSomeTask k (Some inner) = IsSoundTask k inner

-- a macro with these texts, and without prefixes
abbrev pub as_macro : List Token → List Token → Macro
as_macro parameters body = record { long = false; outer = false; guarded = false; params = parameters; body = body }

-- what is told: a list has no arguments, and a definition is that of a macro
abbrev pub IsSoundTold : Known → Told → Type 0
IsSoundTold k told.Done = Unit {0}
IsSoundTold k (told.Number n) = Unit {0}
IsSoundTold k (told.Word word) = Unit {0}
IsSoundTold k (told.Level level) = Unit {0}
IsSoundTold k told.GoOn = Unit {0}
IsSoundTold k (told.Text text) = Unit {0}
IsSoundTold k (told.Holds b) = Unit {0}
IsSoundTold k (told.Tokens tokens) = AreSoundTokens k tokens
IsSoundTold k (told.Definition parameters body) = IsSoundMacro k (as_macro parameters body)

-- a token that was taken, and its meaning
abbrev pub IsSoundTaken : Known → Taken → Type 0
IsSoundTaken k (Tok t m) = IsSoundToken k t × IsSoundMeaning k m
IsSoundTaken k (Got tells) = IsSoundTold k tells
IsSoundTaken k (Was tells) = IsSoundTold k tells

abbrev pub AreSoundTaken : Known → List Taken → Type 0
AreSoundTaken k taken = AllByRecursion (IsSoundTaken k) taken

-- what is done: the tokens that are put in front or named. Of a macro's text and its arguments only the former may have
-- signs of arguments
abbrev pub IsSoundAct : Known → Act → Type 0
IsSoundAct k (act.Return t) = IsSoundToken k t
IsSoundAct k (act.InsertRelax t) = IsSoundToken k t
IsSoundAct k (act.Pass kind back) = IsSoundSome k back
IsSoundAct k (act.PassUndefined t) = IsSoundToken k t
IsSoundAct k (act.Look q) = Unit {0}
IsSoundAct k (act.LookNumbered code n) = Unit {0}
IsSoundAct k (act.PutRegister n) = Unit {0}
IsSoundAct k (act.PutParameter code) = Unit {0}
IsSoundAct k (act.TellRegister n) = Unit {0}
IsSoundAct k (act.TellParameter code) = Unit {0}
IsSoundAct k (act.CantUse t) = IsSoundToken k t
IsSoundAct k (act.Digits numerals n) = Unit {0}
IsSoundAct k (act.Text body arguments) = AllByRecursion (IsSoundBeside (λ number. Unit {0}) k) body × AllByRecursion (AreSoundTokens k) arguments
IsSoundAct k (act.Refuse name refusal) = IsSoundToken k name
IsSoundAct k act.Full = Unit {0}
IsSoundAct k (act.Open kind) = Unit {0}
IsSoundAct k (act.Choose level) = Unit {0}
IsSoundAct k (act.Leave word level) = Unit {0}
IsSoundAct k act.Close = Unit {0}
IsSoundAct k (act.Meet t word) = IsSoundToken k t
IsSoundAct k (act.MakeName text) = Unit {0}
IsSoundAct k (act.ReadFile name) = Unit {0}
IsSoundAct k (act.AskMode asks) = Unit {0}
IsSoundAct k (act.AskMarked t) = IsSoundToken k t
IsSoundAct k act.AskSame = Unit {0}
IsSoundAct k (act.Simple thing) = Unit {0}

abbrev pub IsSoundWant : Known → Want → Type 0
IsSoundWant k want.Raw = Unit {0}
IsSoundWant k want.Expanded = Unit {0}
IsSoundWant k want.Character = Unit {0}
IsSoundWant k (want.Act act) = IsSoundAct k act
IsSoundWant k (want.Inner inner) = IsSoundTask k inner
IsSoundWant k (want.Gives tells back) = IsSoundTold k tells × IsSoundSome k back
IsSoundWant k (want.Wrong kind) = Unit {0}

-- what a turn finds
abbrev pub IsSoundFound : Known → Found Task Taken Told → Type 0
IsSoundFound k (More x) = IsSoundTaken k x
IsSoundFound k Again = Unit {0}
IsSoundFound k (Inner inner) = IsSoundTask k inner
IsSoundFound k (Aside inner) = IsSoundTask k inner
IsSoundFound k (Ends tells) = IsSoundTold k tells
