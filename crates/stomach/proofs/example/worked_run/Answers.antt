use Rattle.std.proofs.Common.{refl}
use Rattle.tokens.specs.Categories.{initial_categories}
use Rattle.tokens.specs.Names.{interned}
use Rattle.tokens.specs.Primitives.{primitive_names, compatibility_names, extended_names, expandable_names, integer_parameters, dimension_parameters, glue_parameters, token_parameters, quantity_names, assignment_names, group_names, box_names, left_out_names, etex_expandable_names, etex_quantity_names, etex_other_names, etex_left_out_names}
use Rattle.catcode_eye.specs.Shorter.{on_shorter, within}
use Rattle.catcode_eye.specs.Superscripts.{reduced}
use Rattle.catcode_eye.specs.Seen.{letters, sight}
use Rattle.asking.specs.Loops.{at_most as at_most_asking}
use Rattle.asking.specs.Meaning.{walk, asks_within}
use Rattle.asking.specs.Turns.{turns}
use Rattle.stomach.specs.Again.{at_most, again}
use Rattle.stomach.specs.Command.{command_named}
use Rattle.stomach.specs.Take.{line_taken, token_over, token_from}
use Rattle.stomach.specs.Operand.{take, token_turn, next_token}
use Rattle.stomach.specs.Expanded.{expanded_turn, operand_token}
use Rattle.stomach.specs.TextToken.{text_token}
use Rattle.stomach.specs.Name.{name_turn, file_name}
use Rattle.stomach.specs.NamedFile.{named_file, naming_line}
use Rattle.stomach.specs.Character.{named_character}
use Rattle.stomach.specs.Catcode.{exactly, digit, after_number, category_number, with_category, catcode}
use Rattle.stomach.specs.Message.{brace_turn, left_brace, text_turn, balanced_text, shown_text, message}
use Rattle.stomach.specs.Input.{opened, begun, found, open_file, input, first_input}
use Rattle.stomach.specs.Turn.{plain_turn, turn}
use Rattle.stomach.specs.Report.{no_pages}
use Rattle.stomach.specs.Machine.{beginning}
use Rattle.stomach.proofs.example.worked_run.Goals as goal

pub returns : goal.returns
unfolding initial_categories interned primitive_names compatibility_names extended_names expandable_names integer_parameters dimension_parameters glue_parameters token_parameters quantity_names assignment_names group_names box_names left_out_names etex_expandable_names etex_quantity_names etex_other_names etex_left_out_names on_shorter within reduced letters sight at_most_asking walk asks_within turns at_most again command_named line_taken token_over token_from take token_turn next_token expanded_turn operand_token text_token name_turn file_name named_file naming_line named_character exactly digit after_number category_number with_category catcode brace_turn left_brace text_turn balanced_text shown_text message opened begun found open_file input first_input plain_turn turn no_pages beginning
returns c = record { worked = record { message = refl; number = refl; name = refl } }
