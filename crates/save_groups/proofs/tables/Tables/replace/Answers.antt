-- What the tables stand for changes at the key alone.
use Rattle.std.proofs.Common.{◌≡◌, ◌+◌, rules, ap, sym, ◌∙◌, subst}
use Rattle.std.specs.Prelude.{IsTrue}
use Rattle.tokens.specs.declared.meaning.Meaning.{Meaning}
use Rattle.save_groups.specs.declared.key.Key.{Key}
use Rattle.save_groups.specs.declared.value.Value.{Value}
use Rattle.save_groups.specs.declared.value.Value.TheVariants as value
use Rattle.save_groups.specs.Keys.{holds_meaning}
use Rattle.save_groups.specs.Values.{fits}
use Rattle.save_groups.specs.InTrees.{count_of}
use Rattle.save_groups.specs.Holding.{named_count}
use Rattle.save_groups.specs.Nodes.{named_by}
use Rattle.save_groups.proofs.Naming.{named-replaced}
use Rattle.save_groups.specs.Entries.{with_number}
use Rattle.save_groups.proofs.Replaced.{replaced_number, replaced_glue, replaced_tokens, replaced_box, replaced_table}
use Rattle.save_groups.proofs.tables.Tables.replace.Goals as goal

pub returns-in-Number-clause-new : goal.returns-in-Number-clause-new
returns-in-Number-clause-new c =
    let put : c.replace_number-old.new.self ≡ with_number c.args.key (record { value = c.in-Number.value; level = c.args.entry.level }) c.args.self.now =
    search rules in
    replaced_number c.args.key c.args.entry.value c.args.entry.level c.in-Number.value c.args.self.now c.replace_number-old.new.self
    c.in-Number.is c.requires.room c.requires.kind put

pub returns-in-Glue-clause-new : goal.returns-in-Glue-clause-new
returns-in-Glue-clause-new c =
    replaced_glue c.args.key c.args.entry.value c.args.entry.level c.in-Glue.value c.args.self.now c.replace_glue-old.new.self
    c.in-Glue.is c.requires.room c.requires.kind c.replace_glue-old.ensures.new

pub returns-in-Tokens-clause-new : goal.returns-in-Tokens-clause-new
returns-in-Tokens-clause-new c =
    replaced_tokens c.args.key c.args.entry.value c.args.entry.level c.in-Tokens.value c.args.self.now c.replace_tokens-old.new.self
    c.in-Tokens.is c.requires.room c.requires.kind c.replace_tokens-old.ensures.new

pub returns-in-Boxed-clause-new : goal.returns-in-Boxed-clause-new
returns-in-Boxed-clause-new c =
    replaced_box c.args.key c.args.entry.value c.args.entry.level c.in-Boxed.value c.args.self.now c.replace_box-old.new.self
    c.in-Boxed.is c.requires.room c.requires.kind c.replace_box-old.ensures.new

pub returns-in-Table-clause-new : goal.returns-in-Table-clause-new
returns-in-Table-clause-new c =
    replaced_table c.args.key c.args.entry.value c.args.entry.level c.in-Table.value c.args.self.now c.replace_table-old.new.self
    c.in-Table.is c.requires.room c.requires.kind c.replace_table-old.ensures.new

pub returns-in-Meaning-clause-named : goal.returns-in-Meaning-clause-named
returns-in-Meaning-clause-named c other =
    let balance = named-replaced c.args.key (record { value = c.in-Meaning.value; level = c.args.entry.level }) c.replace_meaning-old.result c.args.self.now c.replace_meaning-old.new.self
    c.requires.room (meaning_alone c.args.key c.args.entry.value c.in-Meaning.value c.in-Meaning.is c.requires.kind) c.replace_meaning-old.ensures.old c.replace_meaning-old.ensures.new other in
    balance ∙ ap (λ v. named_count other c.args.self.now + count_of other (named_by v)) (sym c.in-Meaning.is)
  where
    meaning_alone : (key : Key) (v : Value) (m : Meaning) → v ≡ value.Meaning m → IsTrue (fits key v) → IsTrue (holds_meaning key)
    meaning_alone key v m is fit = let P : Value → Type 0 = λ w. IsTrue (fits key w) in subst P is fit
