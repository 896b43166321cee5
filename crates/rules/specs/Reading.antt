-- The routines of parser.rs that read items inside items: over any builder, for what is read. Each takes `inner`, which reads an item inside a node;
-- `content_at` ties the knot. "These call each other in a cycle; the number of nodes that may yet be opened falls."
use Rattle.std.specs.Prelude.{ℕ, zero, suc, Bool, true, false, cond, [], ◌∷◌, eqb}
use Rattle.std.specs.Prelude.{Option, None as none, Some as some}
use Rattle.rules.specs.Builder.{Builder}
use Rattle.rules.specs.Cursor.{peek, at_start}
use Rattle.rules.specs.Items.{Item, plain, error, word, comma, group, attachment, command, environment, left_right, skipped, item_of, group_kind, closer, class_command, class_environment, of_class, name_only, attachable, greedy_stops, Piece, character, within, brace, item, Choice, ends, holds, takes, choose}
use Rattle.rules.specs.Limits
use Rattle.rules.specs.Matcher.{Matcher, start_match, is_greedy, form_left1, form_infix_greedy}
use Rattle.rules.specs.Outcome.{Out, went, refused, bind, greedy_environment, too_many_open}
use Rattle.rules.specs.Position.{Shape, Source, At, Rule, steps, place, with_list, with_marks, holding_none, start, finish}
use Rattle.rules.specs.Routines.{next, turns, eat, eat_if, trivia, single_char, one_in, hold_trivia, extract_holding_trivia, text, clause_lr, skipped_body, start_around, left1_command, argument_node, end_clause, right_clause}
use Rattle.rules.specs.Scope
use Rattle.rules.specs.Scope.{Scope, stops}
use Rattle.rules.specs.SyntaxKind
use Rattle.rules.specs.Tables.{kind_at}

module _ (B : Builder) (source : Source) where
  -- the shape of the next token, where one of this class is asked for
  abbrev pub shape_here : ℕ → At B → Shape
  shape_here class p = of_class class (source.shape (place B p))

  -- "Last becomes the mark before an item whose reading says attachable": what last is behind the item that begins at p and ends at q
  abbrev pub last_after : At B → At B → At B
  last_after p q =
      with_marks B q.list.start
      (cond (attachable (kind_at source.tokens (place B p)) (source.shape (place B p))) (some (B.mark p.built)) q.list.last)
      q

  -- reads an item inside a node; the Bool says whether one character of a Word is enough
  module _ (inner : Bool → Rule B) where
    -- ---- lists and groups

    -- `item_list`'s loop: items up to the end, or a token whose kind stops them
    unfoldable pub items : (ℕ → Bool) → ℕ → Rule B
    items stop zero p = went p
    items stop (suc n) p =
        cond (next B source (λ kind. cond (stop kind) false true) p) (bind (inner false p) (λ q. items stop n (last_after p q)))
        (went p)

    -- `item_list`: "Groups, environments and left-right bodies read a new list and then give back the parent's marks."
    unfoldable pub item_list : Scope → Rule B
    item_list scope p =
        steps
        ((λ q. went (with_list B (record { scope = scope; start = some (B.mark q.built); last = none }) q))
        ∷ (λ q. items (stops scope) (turns B source q) q)
        ∷ (λ q. went (with_list B p.list q))
        ∷ [])
        p

    -- `item_group`:  {a}   Curly[{ Text[a] }]
    unfoldable pub item_group : Scope → Rule B
    item_group scope p =
        steps
        (start B (group_kind scope)
        ∷ eat B source
        ∷ item_list scope
        ∷ eat_if B source (closer scope)
        ∷ finish B (group_kind scope) (B.frame p.built)
        ∷ [])
        p

    -- ---- arguments

    -- how an argument is read, inside its node
    unfoldable pub piece : Piece → Rule B
    piece character p = single_char B source p
    piece (within scope) p = item_group scope p
    piece brace p = eat B source p
    piece item p = inner false p

    -- an argument: its node around that
    unfoldable pub argument : Piece → Rule B
    argument what = argument_node B source (piece what)

    -- a turn of `match_arguments_`: the arguments end, a token is held, or an argument is read and the matcher goes on
    abbrev pub chosen : (Matcher → Rule B) → Choice → Matcher → Rule B
    chosen more ends m p = went p
    chosen more holds m p = more m (hold_trivia B source p)
    chosen more (takes what next) m p = bind (argument what p) (λ q. more next q)

    -- at the end there is no argument
    abbrev pub choice_for : Option ℕ → Matcher → At B → Choice
    choice_for none m p = ends
    choice_for (some kind) m p = choose source.states p.list.scope m kind

    abbrev pub choice_at : Matcher → At B → Choice
    choice_at m p = choice_for (peek source.tokens p.lexer) m p

    -- `match_arguments_`, not greedy; a Word gives its characters turn by turn
    unfoldable pub arguments : ℕ → Matcher → Rule B
    arguments zero m p = went p
    arguments (suc n) m p = chosen (arguments n) (choice_at m p) m p

    -- `match_arguments` of a matcher that isn't greedy. "Around arguments last is cleared first and saved second, so it is empty afterwards.
    -- Start is empty inside non-greedy arguments"
    unfoldable pub match_arguments : Matcher → Rule B
    match_arguments m p =
        steps
        ((λ q. went (holding_none B (with_marks B none none q)))
        ∷ (λ q. arguments (turns B source q) m q)
        ∷ (λ q. went (with_marks B p.list.start none q))  -- "empty afterwards"
        ∷ [])
        p

    -- the arguments that a shape asks for: none, and then nothing is held, or those that its matcher takes. "environment whose class 2 shape is
    -- greedy, when its arguments are to be read" is refused 5. Of commands, only those with a matcher that isn't greedy come here (`command_of`)
    unfoldable pub arguments_of : Shape → Rule B
    arguments_of s p =
        cond (name_only s) (went (holding_none B p))
        (cond (is_greedy (start_match s.form s.value)) (refused greedy_environment (place B p))
        (match_arguments (start_match s.form s.value) p))

    -- a name and the arguments that a shape asks for, in a node of a kind:  \f12   Cmd[\f Arg[1] Arg[2]]
    -- of trivia that was held "what is left follows the command's node"
    unfoldable pub with_arguments : ℕ → Shape → Rule B
    with_arguments kind s p =
        steps
        (start B kind
        ∷ eat B source
        ∷ arguments_of s
        ∷ finish B kind (B.frame p.built)
        ∷ extract_holding_trivia B source
        ∷ [])
        p

    -- `match_arguments` of a greedy command. "Start is .. a new mark inside greedy ones." "`[` and `(` are eaten plain. Last becomes the mark before
    -- each opening brace's item, plain ones too, and each attachable item": that is what reading these as items does
    unfoldable pub greedy_items : Rule B
    greedy_items p =
        steps
        ((λ q. went (with_marks B (some (B.mark q.built)) none q))
        ∷ (λ q. items (greedy_stops q.list.scope) (turns B source q) q)
        ∷ (λ q. went (with_marks B p.list.start none q))
        ∷ [])
        p

    -- all that a greedy command takes, in one node
    unfoldable pub greedy_argument : Rule B
    greedy_argument p =
        steps
        (start B SyntaxKind.ClauseArgument
        ∷ greedy_items
        ∷ finish B SyntaxKind.ClauseArgument (B.frame p.built)
        ∷ [])
        p

    -- ---- commands

    -- a greedy command, around what stands from a mark on if there is one:  a\o b   Cmd[Arg[Text a] \o Arg[..]]
    unfoldable pub greedy_command : Option B.Mark → Rule B
    greedy_command at p =
        steps
        (start_around B source SyntaxKind.ItemCmd at
        ∷ eat B source
        ∷ greedy_argument
        ∷ finish B SyntaxKind.ItemCmd (B.frame p.built)
        ∷ [])
        p

    -- `command`, by its shape
    unfoldable pub command_of : Shape → Rule B
    command_of s p =
        -- "name only, attachable":  \z   Cmd[\z]
        cond (name_only s) (one_in B source SyntaxKind.ItemCmd p)
        (cond (eqb s.form form_left1) (left1_command B source p)
        -- "Infix-greedy: takes start away and wraps from it if there was one"
        (cond (eqb s.form form_infix_greedy) (greedy_command p.list.start (with_marks B none p.list.last p))
        (cond (is_greedy (start_match s.form s.value)) (greedy_command none p)
        (with_arguments SyntaxKind.ItemCmd s p))))

    -- ---- environments, left-right bodies, attachments

    -- the \begin: its name, and its arguments on the marks and stops of the list around it
    unfoldable pub begin_clause : Rule B
    begin_clause p = with_arguments SyntaxKind.ItemBegin (shape_here class_environment p) p

    -- `environment`, "as the source has" it:  \begin{m}a\end{m}   Env[Begin[m] Text[a] End[m]]
    unfoldable pub environment_item : Rule B
    environment_item p =
        steps
        (start B SyntaxKind.ItemEnv
        ∷ begin_clause
        ∷ item_list Scope.Environment
        ∷ end_clause B source
        ∷ finish B SyntaxKind.ItemEnv (B.frame p.built)
        ∷ [])
        p

    -- `item_lr`:  \left(a\right)   LR[ClauseLR[\left (] Text[a] ClauseLR[\right )]]
    unfoldable pub item_lr : Rule B
    item_lr p =
        steps
        (start B SyntaxKind.ItemLR
        ∷ clause_lr B source
        ∷ item_list Scope.LR
        ∷ right_clause B source
        ∷ finish B SyntaxKind.ItemLR (B.frame p.built)
        ∷ [])
        p

    -- what follows `_` or `^`: "`content` itself doesn't ask the scope", so a `}` is a script too
    unfoldable pub script : Bool → Rule B
    script true p = steps (trivia B source ∷ inner true ∷ []) p
    script false p = went p

    -- an attachment, around what stands from a mark on if there is one:  a_b   Attach[Arg[Text a] _ b]
    unfoldable pub attachment_at : Bool → Option B.Mark → Rule B
    attachment_at has_script at p =
        steps
        (start_around B source SyntaxKind.ItemAttachComponent at
        ∷ eat B source
        ∷ script has_script
        ∷ finish B SyntaxKind.ItemAttachComponent (B.frame p.built)
        ∷ [])
        p

    -- `attach_component`: without a last mark `'` is a plain leaf, and `_b` is Attach[_ b]
    unfoldable pub attach_to : Bool → Option B.Mark → Rule B
    attach_to has_script (some m) p = attachment_at has_script (some m) p
    attach_to true none p = attachment_at true none p
    attach_to false none p = eat B source p

    unfoldable pub attach_component : Bool → Rule B
    attach_component has_script p = attach_to has_script p.list.last p

    -- ---- `content`: any item

    -- what is done in each arm of its match
    unfoldable pub read_item : Bool → Item → Rule B
    read_item single plain p = eat B source p
    read_item single error p = one_in B source SyntaxKind.TokenError p
    read_item single word p = cond single (single_char B source p) (text B source p)
    read_item single comma p = text B source p
    read_item single (group scope) p = item_group scope p
    read_item single (attachment has_script) p = attach_component has_script p
    read_item single command p = command_of (shape_here class_command p) p
    read_item single environment p = environment_item p
    read_item single left_right p = item_lr p
    read_item single (skipped node) p = skipped_body B source node p

    -- at the end there is nothing to read
    abbrev pub content_for : Option ℕ → Bool → Rule B
    content_for none single p = went p
    content_for (some kind) single p = read_item single (item_of kind) p

    -- "`content` itself doesn't ask the scope."
    unfoldable pub content : Bool → Rule B
    content single p = content_for (peek source.tokens p.lexer) single p

  -- the knot. `content_at (suc d)` is `content` inside a node below which d more may be opened. Level 0 stands for a node that is one too many, in
  -- which nothing is read: a builder that counts open nodes refuses before that, so it is never reached (proofs/Depth.antt)
  unfoldable pub content_at : ℕ → Bool → Rule B
  content_at zero = λ single p. refused too_many_open (place B p)
  content_at (suc d) = content (content_at d)

  -- `parse` where so many nodes may be open, root counted: the root, a list in it, its end
  abbrev pub parse_at : ℕ → B.State → Out (At B)
  parse_at d b =
      steps
      (start B SyntaxKind.ScopeRoot
      ∷ item_list (content_at d) Scope.Root
      ∷ finish B SyntaxKind.ScopeRoot (B.frame b)
      ∷ [])
      (record { lexer = at_start; held = 0; list = record { scope = Scope.Root; start = none; last = none }; built = b })

  unfoldable pub parse : B.State → Out (At B)
  parse b = parse_at Limits.nodes b
