-- What a rule's function is given and answers, as a view and a template: the sorts of a view are numbers of a table's sorts.
use Rattle.std.specs.Prelude.{◌≡◌, List, map, Option, Some, option_map}
use Rattle.smt_terms.specs.Sorts.{Sort}
use Rattle.smt_terms.specs.Term.{Term}
use Rattle.smt_terms.specs.Rank.{IsWellSorted}
use Rattle.smt_values.specs.SortIds.{sort_at}
use Rattle.rule_book.specs.declared.views.Cell.{Cell}
use Rattle.rule_book.specs.declared.views.View.{View}
use Rattle.rule_book.specs.declared.templates.Piece.{Piece}
use Rattle.rule_book.specs.declared.templates.Piece.TheVariants as piece
use Rattle.rule_book.specs.declared.templates.Tmpl.{Tmpl}
use Rattle.normal_forms.specs.Literals.{literal_of}
use Rattle.rule_book.specs.View.{TermCell, TermView, view_of}
use Rattle.rule_book.specs.Template.{TermPiece, hole, literal, applied, Template}

abbrev pub cell_seen : List Sort → Cell → TermCell
cell_seen ss c = record { up = c.up; shown = c.op; sort = sort_at ss c.sort; hole = c.hole }

abbrev pub view_seen : List Sort → View → TermView
view_seen ss v = record { root = v.root; sort = sort_at ss v.sort; cells = map (cell_seen ss) v.cells }

abbrev pub piece_seen : Piece → TermPiece
piece_seen (piece.Hole i) = hole i
piece_seen (piece.Const s) = literal (literal_of s)
piece_seen (piece.Apply o n) = applied o n

abbrev pub template_seen : Tmpl → Template
template_seen p = map piece_seen p.pieces

abbrev pub answer_seen : Option Tmpl → Option Template
answer_seen p = option_map template_seen p

-- the view shows this well-sorted term
pub record Shows (ss : List Sort) (t : Term) (v : View) : Type 0 where
  pub sorted : IsWellSorted t
  pub view : view_of t ≡ Some (view_seen ss v)
