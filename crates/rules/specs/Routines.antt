-- The routines of parser.rs that read no item inside another: over any builder, for what is read.
use Rattle.std.specs.Prelude.{ℕ, zero, suc, ◌+◌, ◌-◌, Bool, true, cond, [], ◌∷◌, eqb}
use Rattle.std.specs.Prelude.{Option, None as none, Some as some}
use Rattle.rules.specs.Builder.{Builder}
use Rattle.rules.specs.Characters.{char_length}
use Rattle.rules.specs.Cursor.{peek, rest_start, rest_length, peek_text, eaten, consumed, left}
use Rattle.rules.specs.Flat.{reason_trivia, reason_opener, reason_closer}
use Rattle.rules.specs.Items.{is_command_name, is_if}
use Rattle.rules.specs.Kinds.{leaf_kind, is_trivia, is_text_component}
use Rattle.rules.specs.Outcome.{went, bind}
use Rattle.rules.specs.Position.{Source, At, Rule, steps, asked, place, with_built, with_lexer, leaf, start, finish, wrap, holding_none}
use Rattle.rules.specs.SyntaxKind
use Rattle.rules.specs.Tables.{kind_at, start_at, length_at}
use Rattle.rules.specs.Token

module _ (B : Builder) (source : Source) where
  -- whether a next token is there whose kind passes a test
  abbrev pub next : (ℕ → Bool) → At B → Bool
  next test p = asked test (peek source.tokens p.lexer)

  -- no loop has more turns than what is left to read
  abbrev pub turns : At B → ℕ
  turns p = left source.tokens p.lexer

  -- ---- tokens

  -- `eat_as`: what is left of the next token becomes a leaf of this kind. "A token is read once its last leaf is written"
  unfoldable pub eat_as : ℕ → Rule B
  eat_as kind p =
      bind
      (leaf B
      (record {
        token = place B p;
        kind = kind;
        start = rest_start source.tokens p.lexer;
        size = rest_length source.tokens p.lexer;
      })
      p)
      (λ q. went (with_lexer B (eaten q.lexer) q))

  -- `eat`: of the kind that its own kind turns into
  unfoldable pub eat : Rule B
  eat p = eat_as (leaf_kind (kind_at source.tokens (place B p))) p

  -- what is read if a token of this kind is next
  abbrev pub if_next : ℕ → Rule B → Rule B
  if_next kind read p = cond (next (eqb kind) p) (read p) (went p)

  -- `eat_if`: a token of this kind is eaten, if it is next
  unfoldable pub eat_if : ℕ → Rule B
  eat_if kind p = if_next kind eat p

  -- tokens are eaten while their kind passes a test
  unfoldable pub eat_while : (ℕ → Bool) → ℕ → Rule B
  eat_while test zero p = went p
  eat_while test (suc n) p = cond (next test p) (bind (eat p) (λ q. eat_while test n q)) (went p)

  -- `trivia`: blanks before a script or a delimiter become leaves
  unfoldable pub trivia : Rule B
  trivia p = eat_while is_trivia (turns p) p

  -- `single_char`: the first character of what is left of the next token becomes a leaf, and is passed; "what is left of the word is handed on"
  unfoldable pub single_char : Rule B
  single_char p =
      let size = char_length (peek_text source.text source.tokens p.lexer) in
      bind (leaf B (record { token = place B p; kind = SyntaxKind.TokenWord; start = rest_start source.tokens p.lexer; size = size }) p)
      (λ q. went (with_lexer B (consumed source.tokens size q.lexer) q))

  -- a node of a kind with one token in it
  unfoldable pub one_in : ℕ → Rule B
  one_in kind p = steps (start B kind ∷ eat ∷ finish B kind (B.frame p.built) ∷ []) p

  -- ---- held trivia

  -- `hold_trivia`: "Trivia is held", and read "when it is held"
  abbrev pub hold_trivia : At B → At B
  hold_trivia p = with_lexer B (eaten p.lexer) p

  -- so many held tokens, from one on, are dropped
  unfoldable pub drop_from : ℕ → ℕ → B.State → B.State
  drop_from zero i b = b
  drop_from (suc n) i b = drop_from n (i + 1) (B.drop i reason_trivia b)

  -- `ignore_holding_trivia`: "an accepted argument drops what is held", in the order of holding
  unfoldable pub ignore_holding_trivia : Rule B
  ignore_holding_trivia p = went (holding_none B (with_built B p (drop_from (place B p - p.held) p.held p.built)))

  -- so many held tokens, from one on, become leaves
  unfoldable pub leaves_from : ℕ → ℕ → Rule B
  leaves_from zero i p = went p
  leaves_from (suc n) i p =
      bind
      (leaf B
      (record {
        token = i;
        kind = leaf_kind (kind_at source.tokens i);
        start = start_at source.tokens i;
        size = length_at source.tokens i;
      })
      p)
      (λ q. leaves_from n (i + 1) q)

  -- `extract_holding_trivia`: "what is left follows the command's node"
  unfoldable pub extract_holding_trivia : Rule B
  extract_holding_trivia p = bind (leaves_from (place B p - p.held) p.held p) (λ q. went (holding_none B q))

  -- ---- items without an item inside

  -- `text`, "as the source has" it: `a, b` is one text
  unfoldable pub text : Rule B
  text p =
      steps
      (start B SyntaxKind.ItemText
      ∷ eat
      ∷ (λ q. eat_while is_text_component (turns q) q)
      ∷ finish B SyntaxKind.ItemText (B.frame p.built)
      ∷ [])
      p

  -- what `clause_lr` takes as the delimiter: of a Word its first character, no command but a Generic one, and no `$`
  abbrev pub delimiter_of : Option ℕ → Rule B
  delimiter_of none p = went p
  delimiter_of (some kind) p =
      cond (eqb kind Token.Generic) (eat_as SyntaxKind.TokenCommandSym p)
      (cond (is_command_name kind) (went p)
      (cond (eqb kind Token.Dollar) (went p)
      (cond (eqb kind Token.Word) (single_char p) (eat p))))

  unfoldable pub delimiter : Rule B
  delimiter p = delimiter_of (peek source.tokens p.lexer) p

  -- `clause_lr`, "as the source has" it: `\left` or `\right`, and its delimiter
  unfoldable pub clause_lr : Rule B
  clause_lr p = steps (start B SyntaxKind.ClauseLR ∷ eat ∷ trivia ∷ delimiter ∷ finish B SyntaxKind.ClauseLR (B.frame p.built) ∷ []) p

  -- `drop`: the next token is dropped, and so read
  unfoldable pub drop_next : ℕ → Rule B
  drop_next reason p = went (with_lexer B (eaten p.lexer) (with_built B p (B.drop (place B p) reason p.built)))

  -- `eat_body_of_ifs`, "as the source has" it: up to the \fi of nesting 0, which is dropped; any \if nests
  unfoldable pub eat_body_of_ifs : ℕ → ℕ → Rule B
  eat_body_of_ifs zero nested p = went p
  eat_body_of_ifs (suc n) nested p =
      cond (next (eqb Token.EndIf) p)
      (cond (eqb nested 0) (drop_next reason_closer p) (bind (eat p) (λ q. eat_body_of_ifs n (nested - 1) q)))
      (cond (next is_if p) (bind (eat p) (λ q. eat_body_of_ifs n (nested + 1) q))
      (cond (next (λ kind. true) p) (bind (eat p) (λ q. eat_body_of_ifs n nested q)) (went p)))

  -- `block_comment` and `typst_code`:  \iffalse a\fi   BlockComment[a], with the two commands dropped
  unfoldable pub skipped_body : ℕ → Rule B
  skipped_body kind p = steps (start B kind ∷ drop_next reason_opener ∷ (λ q. eat_body_of_ifs (turns q) 0 q) ∷ finish B kind (B.frame p.built) ∷ []) p

  -- ---- parts of items that have an item inside: what is read inside is given

  -- `start_command_at`, and the same for an attachment: a node of a kind begins, around what stands from a mark on if there is one
  unfoldable pub start_around : ℕ → Option B.Mark → Rule B
  start_around kind none p = start B kind p
  start_around kind (some m) p = wrap B kind m p

  -- "from last, else start, else nothing"
  abbrev pub or_else : Option B.Mark → Option B.Mark → Option B.Mark
  or_else none other = other
  or_else (some m) other = some m

  -- "Left1: wraps from last, else start, else nothing":  a\l   Cmd[Arg[Text a] \l]
  unfoldable pub left1_command : Rule B
  left1_command p =
      steps
      (start_around SyntaxKind.ItemCmd (or_else p.list.last p.list.start)
      ∷ eat
      ∷ finish B SyntaxKind.ItemCmd (B.frame p.built)
      ∷ [])
      p

  -- `arg`: "an accepted argument drops what is held", and has a node of its own
  unfoldable pub argument_begins : Rule B
  argument_begins p = steps (ignore_holding_trivia ∷ start B SyntaxKind.ClauseArgument ∷ []) p

  unfoldable pub argument_ends : B.Frame → Rule B
  argument_ends parent p = steps (finish B SyntaxKind.ClauseArgument parent ∷ (λ q. went (holding_none B q)) ∷ []) p

  -- around what is read
  unfoldable pub argument_node : Rule B → Rule B
  argument_node read p = steps (argument_begins ∷ read ∷ argument_ends (B.frame p.built) ∷ []) p

  -- the \end, if it is next
  unfoldable pub end_clause : Rule B
  end_clause p = if_next Token.EndEnvironment (one_in SyntaxKind.ItemEnd) p

  -- the \right, if it is next
  unfoldable pub right_clause : Rule B
  right_clause p = if_next Token.Right clause_lr p
