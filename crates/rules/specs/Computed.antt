-- All definitions that a run computes by, under one name, and all that the questions do: a theorem that antt computes says `unfolding the_run`, or
-- `unfolding the_questions`, which opens each of them.
use Rattle.rules.specs.Characters
use Rattle.rules.specs.Checks
use Rattle.rules.specs.Cursor
use Rattle.rules.specs.Flat
use Rattle.rules.specs.Items
use Rattle.rules.specs.Kinds
use Rattle.rules.specs.Matcher
use Rattle.rules.specs.Position
use Rattle.rules.specs.Questions
use Rattle.rules.specs.Reading
use Rattle.rules.specs.Routines
use Rattle.rules.specs.Run
use Rattle.rules.specs.Scope

unfoldable pub the_run : Unit {0}
unfolding Scope.stops Kinds.is_trivia Kinds.is_text_component Kinds.leaf_kind Characters.char_length Characters.characters Characters.is_utf8 Cursor.peek Cursor.rest_start Cursor.rest_length Cursor.peek_text Cursor.consumed Cursor.left Matcher.start_match Matcher.match_next Flat.leafed Flat.leaf Flat.started Flat.start Flat.finished Flat.finish Flat.start_at_row Flat.started_at Flat.start_at Flat.wrap Position.steps Position.wrap Items.attachable Items.greedy_stops Items.choose Routines.eat_as Routines.eat Routines.eat_if Routines.eat_while Routines.trivia Routines.single_char Routines.one_in Routines.drop_from Routines.ignore_holding_trivia Routines.leaves_from Routines.extract_holding_trivia Routines.text Routines.delimiter Routines.clause_lr Routines.drop_next Routines.eat_body_of_ifs Routines.skipped_body Routines.start_around Routines.left1_command Routines.argument_begins Routines.argument_ends Routines.argument_node Routines.end_clause Routines.right_clause Reading.items Reading.item_list Reading.item_group Reading.piece Reading.argument Reading.arguments Reading.match_arguments Reading.arguments_of Reading.with_arguments Reading.greedy_items Reading.greedy_argument Reading.greedy_command Reading.command_of Reading.begin_clause Reading.environment_item Reading.item_lr Reading.script Reading.attachment_at Reading.attach_to Reading.attach_component Reading.read_item Reading.content Reading.content_at Reading.parse Checks.first_bad Checks.within_limits Checks.word_right Checks.token_right Checks.value_right Checks.shape_right Checks.state_right Checks.shape_or_state_right Checks.checks Checks.shape_of Run.run
the_run = tt

unfoldable pub the_questions : Unit {0}
unfolding Questions.tagged Questions.range_at Questions.is_leaf Questions.leaf_range Questions.leaf_text Questions.open_after Questions.balance Questions.formula Questions.first_from Questions.last_before Questions.first_token Questions.last_token Questions.same Questions.is_delimiter Questions.one_of Questions.between Questions.matched Questions.whole_in
the_questions = tt
