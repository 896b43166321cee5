-- What is dropped, said of the tree with its places and the kinds of the tokens, in the words of the demand: "Dropped are exactly the blanks, breaks
-- and comments that a non-greedy command or a \begin itself passed before an argument it then accepted (those an inner command passed and left behind
-- its node stay leaves), the opener of an \iffalse or \iftypst body that is read as one (what stands inside a skipped body opens and closes none),
-- and that body's closing \fi if it has one."
use Rattle.std.specs.Prelude.{ℕ, zero, suc, ◌+◌, ◌*◌, ◌-◌, ◌≡◌, Bool, true, not, cond, ◌&&◌, ◌||◌, List, [], ◌∷◌, ◌++◌, map, eqb, length, take}
use Rattle.std.specs.Prelude.{Option, None as none, Some as some}
use Rattle.rules.specs.Checks.{Tables, source_of}
use Rattle.rules.specs.Flat.{four, dropped_row, reason_trivia, reason_opener, reason_closer}
use Rattle.rules.specs.Items.{class_command, of_class}
use Rattle.rules.specs.Limits
use Rattle.rules.specs.Matcher.{form_greedy, form_infix_greedy}
use Rattle.rules.specs.Outcome.{went}
use Rattle.rules.specs.Position.{Pos, Source}
use Rattle.rules.specs.PutBack.{tree_rows}
use Rattle.rules.specs.Reading.{parse}
use Rattle.rules.specs.Rowan.{Green, rowan, nothing}
use Rattle.rules.specs.Run.{Ran}
use Rattle.rules.specs.Scope.{among}
use Rattle.rules.specs.SyntaxKind
use Rattle.rules.specs.Tables.{kind_at, token_count}
use Rattle.rules.specs.Tree.{Tree, Forest, leaf, node, none, more, layout, base_rows, leaves_in, leaves_all}
use Rattle.rules.specs.Token

module _ (source : Source) where
  abbrev pub kind_of : ℕ → ℕ
  kind_of token = kind_at source.tokens token

  -- ---- "a non-greedy command or a \begin"

  -- a command whose name is this token: "Greedy commands, infix too"
  unfoldable pub greedy_name : ℕ → Bool
  greedy_name token = among (of_class class_command (source.shape token)).form (form_greedy ∷ form_infix_greedy ∷ [])

  -- the node is one that passes trivia before an argument: a command's begins at its name
  unfoldable pub passes : ℕ → ℕ → Bool
  passes kind from = eqb kind SyntaxKind.ItemBegin || (eqb kind SyntaxKind.ItemCmd && not (greedy_name from))

  -- "the blanks, breaks and comments"
  unfoldable pub is_blank : ℕ → Bool
  is_blank token = among (kind_of token) (Token.LineBreak ∷ Token.Whitespace ∷ Token.LineComment ∷ [])

  -- those among so many tokens from one on, with the leaves written before
  unfoldable pub blanks_from : ℕ → ℕ → ℕ → List ℕ
  blanks_from zero token leaves = []
  blanks_from (suc n) token leaves = cond (is_blank token) (dropped_row token reason_trivia leaves) [] ++ blanks_from n (token + 1) leaves

  -- what stands between the end of what the node has read so far and an argument that it then accepted
  abbrev pub passed_before : ℕ → Tree → ℕ → List ℕ
  passed_before behind (leaf l) leaves = []
  passed_before behind (node kind from to inside) leaves = cond (eqb kind SyntaxKind.ClauseArgument) (blanks_from (from - behind) behind leaves) []

  -- where a child ends: behind its token, or at the place at which it was ended
  abbrev pub end_of : Tree → ℕ
  end_of (leaf l) = l.token + 1
  end_of (node kind from to inside) = to

  -- ---- "an \iffalse or \iftypst body that is read as one"

  unfoldable pub is_body : ℕ → ℕ → Bool
  is_body kind from =
      (eqb kind SyntaxKind.ItemBlockComment && eqb (kind_of from) Token.IfFalse)
      || (eqb kind SyntaxKind.ItemTypstCode && eqb (kind_of from) Token.IfTypst)

  -- "33 IfFalse, 34 IfTypst, 35 any other If": "Counting only `\iffalse` in a nested body" is a slip
  unfoldable pub opens_if : ℕ → Bool
  opens_if token = among (kind_of token) (Token.IfFalse ∷ Token.IfTypst ∷ Token.If ∷ [])

  -- "that body's closing \fi": among so many tokens from one on, the first \fi that closes no \if of those that stand inside, of which so many are
  -- still unclosed
  unfoldable pub closing : ℕ → ℕ → ℕ → Option ℕ
  closing zero unclosed token = none
  closing (suc n) unclosed token =
      cond (eqb Token.EndIf (kind_of token)) (cond (eqb unclosed 0) (some token) (closing n (unclosed - 1) (token + 1)))
      (cond (opens_if token) (closing n (unclosed + 1) (token + 1)) (closing n unclosed (token + 1)))

  -- "if it has one"
  abbrev pub closer_row : Option ℕ → ℕ → List ℕ
  closer_row none leaves = []
  closer_row (some token) leaves = dropped_row token reason_closer leaves

  -- of the body that the token opens, up to the last token
  abbrev pub closer_of : ℕ → Option ℕ
  closer_of opener = closing (token_count source.tokens - (opener + 1)) 0 (opener + 1)

  -- ---- the dropped rows of a tree, in order, where so many leaves stand before it

  unfoldable mutual
    pub dropped_in : ℕ → Tree → List ℕ
    dropped_in leaves (leaf l) = []
    dropped_in leaves (node kind from to inside) =
        cond (is_body kind from) (dropped_row from reason_opener leaves ++ closer_row (closer_of from) (leaves + leaves_all inside))
        (cond (passes kind from) (dropped_passing from leaves inside) (dropped_all leaves inside))

    -- of children of a node that passes nothing itself
    pub dropped_all : ℕ → Forest → List ℕ
    dropped_all leaves none = []
    dropped_all leaves (more t rest) = dropped_in leaves t ++ dropped_all (leaves + leaves_in t) rest

    -- of children of a command or a \begin that has read up to `behind`
    pub dropped_passing : ℕ → ℕ → Forest → List ℕ
    dropped_passing behind leaves none = []
    dropped_passing behind leaves (more t rest) =
        passed_before behind t leaves ++ (dropped_in leaves t ++ dropped_passing (end_of t) (leaves + leaves_in t) rest)

  -- the dropped rows of a run with this tree
  abbrev pub dropped : Tree → List ℕ
  dropped tree = dropped_in 0 tree

  -- ---- what is proved of a run

  -- "reason (1 trivia, 2 opener, 3 closer)": what it says of a token
  pub data Reason (token : ℕ) : ℕ → Type 0 where
    trivia : is_blank token ≡ true → Reason token reason_trivia
    opener : among (kind_of token) (Token.IfFalse ∷ Token.IfTypst ∷ []) ≡ true → Reason token reason_opener
    closer : eqb Token.EndIf (kind_of token) ≡ true → Reason token reason_closer

  -- so many dropped rows, each with a reason that fits its token
  pub data Reasoned : ℕ → List ℕ → Type 0 where
    no_row : Reasoned 0 []
    a_row : {n token reason leaves : ℕ} {rest : List ℕ} → Reason token reason → Reasoned n rest → Reasoned (suc n) (token ∷ reason ∷ leaves ∷ rest)

-- this is the tree of what is read: the one that rowan's builder makes, for a tree buffer of so many numbers
pub record TreeOf (room : ℕ) (source : Source) (t : Tree) : Type 0 where
  pub end : Pos Green ℕ
  pub run : parse (rowan room) source nothing ≡ went end
  pub is : end.built.children ≡ t ∷ []

-- an accepted run of so many rows and dropped rows, with a tree buffer of so many numbers: what both buffers begin with
pub record RanExactly (t : Tables) (room rows count : ℕ) (r : Ran) : Type 0 where
  pub tree : Tree
  pub of : TreeOf room (source_of t) tree
  pub laid : take (rows * Limits.tree_width) r.tree ≡ layout tree
  -- "row counts .. are the tree's own"
  pub size : rows * Limits.tree_width ≡ length (layout tree)
  -- "Demands 2 and 3 read the first four numbers as before."
  pub base : map four (tree_rows rows r.tree) ≡ base_rows tree
  pub only : take (count * Limits.dropped_width) r.dropped ≡ dropped (source_of t) tree
  -- and the reason of each fits its token
  pub reasons : Reasoned (source_of t) count (take (count * Limits.dropped_width) r.dropped)
