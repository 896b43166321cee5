-- The rows of what rowan's two stacks hold: of each open parent its start row and the children that stand before the next one's first. Laws of how
-- that grows and where it parts, up to a child of the innermost parent. Assumes nothing.
use Prim.Native.Nat.{ℕ, ◌≤◌}
use mathlib.Core.Path.{◌≡◌, refl, sym, ap, ◌∙◌}
use mathlib.Core.List.{List, [], ◌∷◌, ◌++◌, append_assoc, append-nil}
use native.Mathlib.Omega.{arith}
use lib.ListN.{length, take, drop, length-append, take-append-drop}
use lib.Seq.{take-take, drop-append-le, length-take-le, take-append_seam, drop-append_seam, take-length, drop-length, slice_empty}
use Rattle.rules.specs.Flat.{with_token, start_row, finish_row}
use Rattle.rules.specs.Rowan.{Parent, first_of, popped}
use Rattle.rules.specs.Tree.{Tree, layout, layouts, forest, node_of}

-- the rows of finished children
abbrev pub laid : List Tree → List ℕ
laid cs = layouts (forest cs)

-- the start row of an open parent
abbrev pub opening : Parent → List ℕ
opening p = with_token p.from (start_row p.kind)

abbrev pub render : List Parent → List Tree → List ℕ
render [] cs = laid cs
render (p ∷ ps) cs = render ps (take p.first cs) ++ (opening p ++ laid (drop p.first cs))

laid_append : (xs ys : List Tree) → laid (xs ++ ys) ≡ laid xs ++ laid ys
unfolding layouts
laid_append [] ys = refl
laid_append (x ∷ xs) ys = ap (λ (l : List ℕ). layout x ++ l) (laid_append xs ys) ∙ sym (append_assoc (layout x) (laid xs) (laid ys))

laid_one : (x : Tree) → laid (x ∷ []) ≡ layout x
unfolding layouts
laid_one x = append-nil (layout x)

-- what is rendered parts at any child of the innermost parent
pub render_split : (ps : List Parent) (cs : List Tree) (n : ℕ)
    → first_of ps ≤ n
    → n ≤ length cs
    → render ps cs ≡ render ps (take n cs) ++ laid (drop n cs)
render_split [] cs n low high = ap laid (sym (take-append-drop n cs)) ∙ laid_append (take n cs) (drop n cs)
render_split (p ∷ ps) cs n low high =
    let long : length (take n cs) ≡ n = length-take-le n cs high in
    let inside : p.first ≤ length (take n cs) = omega arith in
    let own = drop p.first (take n cs) in
    let parts : drop p.first cs ≡ own ++ drop n cs =
    ap (λ (l : List Tree). drop p.first l) (sym (take-append-drop n cs)) ∙ drop-append-le p.first (take n cs) (drop n cs) inside in
    rw (take-take p.first n cs low, ap laid parts ∙ laid_append own (drop n cs))
    (sym (append_assoc (render ps (take p.first cs)) (opening p ++ laid own) (laid (drop n cs))))

-- one more child
pub render_more : (ps : List Parent) (cs : List Tree) (x : Tree) → first_of ps ≤ length cs → render ps (cs ++ (x ∷ [])) ≡ render ps cs ++ layout x
render_more ps cs x low =
    let high : length cs ≤ length (cs ++ (x ∷ [])) = simp length-append (omega arith) in
    render_split ps (cs ++ (x ∷ [])) (length cs) low high ∙ rw (take-append_seam cs (x ∷ []), drop-append_seam cs (x ∷ []), laid_one x)

-- one more parent, which begins at a child
pub render_open : (p : Parent) (ps : List Parent) (cs : List Tree) → p.first ≡ length cs → render (p ∷ ps) cs ≡ render ps cs ++ opening p
unfolding layouts
render_open p ps cs e = rw (e, take-length cs, drop-length cs)

-- the innermost parent's end is one more child of the next
pub render_close : (place : ℕ) (p : Parent) (ps : List Parent) (cs : List Tree) → first_of ps ≤ length (take p.first cs)
    → render ps (popped place (p ∷ ps) cs).1 ≡ render (p ∷ ps) cs ++ with_token place (finish_row p.kind)
unfolding layout
render_close place p ps cs low =
    let stood = take p.first cs in
    let own = drop p.first cs in
    render_more ps stood (node_of p.kind p.from place own) low
    ∙ sym (append_assoc (render ps stood) (opening p ++ laid own) (with_token place (finish_row p.kind)))

-- up to the first child of the innermost parent there is nothing of it but its start row
pub render_first : (p : Parent) (ps : List Parent) (cs : List Tree)
    → render (p ∷ ps) (take p.first cs) ≡ render ps (take p.first cs) ++ opening p
unfolding layouts
render_first p ps cs = rw (take-take p.first p.first cs (omega arith), slice_empty p.first cs)
