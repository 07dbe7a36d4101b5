-- All that a source's tree is computed with.
use Rattle.std.proofs.Common.{ℕ, List, Result}
use Rattle.snap_ast.specs.declared.tree.Tree.{Tree}
use Rattle.spec_grammar.specs.Sign.{sign_of, sign_at, next, same_sign, sees, newline_at, start_at, text_at, is_word_at}
use Rattle.spec_grammar.specs.Operators.{binary_of, level_of, operator_at, lead_of, sequel_of, tail_of, update_of, begins_declaration, begins_statement}
use Rattle.spec_grammar.specs.Parts.{named_at, names_from, parameters, pattern, behind_arrow, arrow_head, is_of, of_head, ends_line, semicolon, is_over, postfix_at, is_lone_name, key_at}
use Rattle.spec_grammar.specs.Nodes.{name_of, is_reference, takes, postfix_node, assign_node}
use Rattle.spec_grammar.specs.Outcome.{expect, check}
use Rattle.spec_grammar.specs.ReadLists.{list_from, list as ReadLists_list, body_from, body as ReadLists_body, block as ReadLists_block, function}
use Rattle.spec_grammar.specs.ReadExpressions.{parens_from, parens, word as ReadExpressions_word, fits, fits_target, key_by, keyed, shorthand, computed, property, properties_from, properties, array as ReadExpressions_array, object as ReadExpressions_object, function_value, single, primary_by, primary as ReadExpressions_primary, tail_from, tail as ReadExpressions_tail, new_with, new, base as ReadExpressions_base, postfix, update_target, update_single, call_with, unary_with, link, chain_from, climb, operand_with, sequel, arrow_body, arrow_value, arrow, expression_with, parenthesized, base_at, operand, expression, member}
use Rattle.spec_grammar.specs.ReadStatements.{name as ReadStatements_name, binding, bindings_from, bindings, constant, destructured, const_binding, const_bindings_from, const_bindings, let_statement, const_statement, function_statement, condition, branch, if_statement, while_statement, optional, for_of, for_let, for_plain, for_head, for_statement, jump, return_statement, throw_statement, finalizer, catch, catch_name, finally, handled, try_statement, expression_statement, statement_by, statement}
use Rattle.spec_grammar.specs.Read.{phrase, script_from, script}
use Rattle.spec_grammar.specs.Source.{Refused, read_tree}
use Rattle.spec_tokens.specs.Byte.{is_line_end, is_blank, is_printable, is_in_line, is_source, is_digit, is_start, is_part, is_hex, is_quote}
use Rattle.spec_tokens.specs.Word.{is_reserved, word_kind}
use Rattle.spec_tokens.specs.Number.{digit_value, value_from, is_hexadecimal, is_zero_first, number_len, number_value, is_number_tail, number as Number_number}
use Rattle.spec_tokens.specs.Text.{hex_escape, is_digit_first, single_escape, escape, item_len, text_end, unit_at, units_from, text_units}
use Rattle.spec_tokens.specs.Mark.{is_mark, mark_len, mark}
use Rattle.spec_tokens.specs.Gap.{line_end_len, comment_end, comment_kind, block_comment, line_comment}
use Rattle.spec_tokens.specs.Piece.{word as Piece_word, text as Piece_text, plain_piece, piece}
use Rattle.spec_tokens.specs.Tokens.{lexemes_from, lexemes}

unfoldable pub computing : List ℕ → Result Tree Refused
unfolding sign_of sign_at next same_sign sees newline_at start_at text_at is_word_at binary_of level_of operator_at lead_of sequel_of tail_of update_of begins_declaration begins_statement named_at names_from parameters pattern behind_arrow arrow_head is_of of_head ends_line semicolon is_over postfix_at is_lone_name key_at name_of is_reference takes postfix_node assign_node expect check list_from ReadLists_list body_from ReadLists_body ReadLists_block function parens_from parens ReadExpressions_word fits fits_target key_by keyed shorthand computed property properties_from properties ReadExpressions_array ReadExpressions_object function_value single primary_by ReadExpressions_primary tail_from ReadExpressions_tail new_with new ReadExpressions_base postfix update_target update_single call_with unary_with link chain_from climb operand_with sequel arrow_body arrow_value arrow expression_with parenthesized base_at operand expression member ReadStatements_name binding bindings_from bindings constant destructured const_binding const_bindings_from const_bindings let_statement const_statement function_statement condition branch if_statement while_statement optional for_of for_let for_plain for_head for_statement jump return_statement throw_statement finalizer catch catch_name finally handled try_statement expression_statement statement_by statement phrase script_from script read_tree is_line_end is_blank is_printable is_in_line is_source is_digit is_start is_part is_hex is_quote is_reserved word_kind digit_value value_from is_hexadecimal is_zero_first number_len number_value is_number_tail Number_number hex_escape is_digit_first single_escape escape item_len text_end unit_at units_from text_units is_mark mark_len mark line_end_len comment_end comment_kind block_comment line_comment Piece_word Piece_text plain_piece piece lexemes_from lexemes
computing source = read_tree source
