-- The numbers of tags and of reasons, by name.
use Rattle.std.specs.Prelude.{ℕ}
use Rattle.rules.specs.Flat
use Rattle.syntax.specs.declared.rows.Tag.{Tag}
use Rattle.syntax.specs.declared.rows.Tag.TheVariants.{Start, Leaf, Finish}
use Rattle.syntax.specs.declared.rows.Reason.{Reason}
use Rattle.syntax.specs.declared.rows.Reason.TheVariants.{Trivia, Opener, Closer}

abbrev pub tag_number : Tag → ℕ
tag_number Start = Flat.tag_start
tag_number Leaf = Flat.tag_leaf
tag_number Finish = Flat.tag_finish

abbrev pub reason_number : Reason → ℕ
reason_number Trivia = Flat.reason_trivia
reason_number Opener = Flat.reason_opener
reason_number Closer = Flat.reason_closer
