-- What a printer holds, and what each kind of print makes of it. Prints go to the terminal and the
-- log, to the log alone, or to a write stream (tex.web 54: the selector).
use Rattle.std.specs.Prelude.{◌≡◌, ℕ, ℤ, Bool, true, ◌&&◌, ◌==◌, if◌then◌else◌, List, [], ◌++◌, refl}
use Rattle.world.specs.declared.target.Target.{Target}
use Rattle.world.specs.declared.target.Target.TheVariants.{Both, Log, Stream}
use Rattle.world.specs.Printed.{Strip, line_ended, printed, followed, printed-append}
use Rattle.std.proofs.Common.{ap, sym, ◌∙◌, append_assoc}

-- bytes for the terminal that no flush has shown yet, and the columns of terminal and log. The log
-- keeps only its column, since its file isn't made before there is a job name
pub record Output : Type 0 where
  pub unflushed : List ℕ
  pub terminal : ℕ
  pub log : ℕ

-- nothing printed
abbrev pub nothing_yet : Output
nothing_yet = record { unflushed = []; terminal = 0; log = 0 }

-- the target may be printed to. No call opens a stream, so none is open
abbrev pub IsOpen : Output → Target → Type 0
IsOpen o Both = Unit {0}
IsOpen o Log = Unit {0}
IsOpen o (Stream n) = ⊥

-- after a strip on the terminal
abbrev pub with_terminal : (ℕ → Strip) → Output → Output
with_terminal strip o = record o { unflushed = o.unflushed ++ (strip o.terminal).bytes; terminal = (strip o.terminal).column }

-- after a strip in the log
abbrev pub with_log : (ℕ → Strip) → Output → Output
with_log strip o = record o { log = (strip o.log).column }

-- after a strip on all of a target
abbrev pub with_strip : Target → (ℕ → Strip) → Output → Output
with_strip Both strip o = with_log strip (with_terminal strip o)
with_strip Log strip o = with_log strip o
with_strip (Stream n) strip o = o

-- after bytes are printed
abbrev pub after_print : Target → List ℕ → ℤ → Output → Output
after_print to bytes newline o = with_strip to (printed newline bytes) o

-- after the line is ended
abbrev pub after_end_line : Target → Output → Output
after_end_line to o = with_strip to line_ended o

-- every line of the target is at its beginning
abbrev pub is_fresh : Target → Output → Bool
is_fresh Both o = (o.terminal == 0) && (o.log == 0)
is_fresh Log o = o.log == 0
is_fresh (Stream n) o = true

-- after the line is ended if it isn't at its beginning (tex.web 62)
abbrev pub after_fresh_line : Target → Output → Output
after_fresh_line to o = (if is_fresh to o then o else after_end_line to o)

-- after a flush
abbrev pub flushed : Output → Output
flushed o = record o { unflushed = [] }

-- ---- laws

-- two strips behind each other are one
abbrev pub StripsCompose : Type 0
StripsCompose = (to : Target) (first second : ℕ → Strip) (o : Output)
    → with_strip to (λ column. followed (first column) second) o ≡ with_strip to second (with_strip to first o)

pub same_output : (o p : Output) → o.unflushed ≡ p.unflushed → o.terminal ≡ p.terminal → o.log ≡ p.log → o ≡ p
same_output o p u t l = λ i. record { unflushed = u i; terminal = t i; log = l i }

pub with_strip-followed : StripsCompose
with_strip-followed Both first second o =
    same_output _ _ (sym (append_assoc o.unflushed (first o.terminal).bytes (second (first o.terminal).column).bytes)) refl refl
with_strip-followed Log first second o = refl
with_strip-followed (Stream n) first second o = refl

-- strips that are alike at each column make the same of an output
same_strips : (to : Target) (s t : ℕ → Strip) → ((column : ℕ) → s column ≡ t column) → (o : Output) → with_strip to s o ≡ with_strip to t o
same_strips to s t h o = ap (λ (strip : ℕ → Strip). with_strip to strip o) (λ i column. h column i)

-- bytes printed in two portions are printed as if at once
abbrev pub PrintsInPortions : Type 0
PrintsInPortions = (to : Target) (xs ys : List ℕ) (newline : ℤ) (o : Output)
    → after_print to (xs ++ ys) newline o ≡ after_print to ys newline (after_print to xs newline o)

pub after_print-append : PrintsInPortions
after_print-append to xs ys newline o =
    same_strips to (printed newline (xs ++ ys)) (λ column. followed (printed newline xs column) (printed newline ys)) (λ column. printed-append newline xs ys column) o
    ∙ with_strip-followed to (printed newline xs) (printed newline ys) o
