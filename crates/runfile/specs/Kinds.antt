-- The rows of the table that the kinds of the code stand for.
use Rattle.grammar.specs.Forms.{Row, link_row, open_row, close_row, change_row, pick_row, arrive_row, depart_row}
use Rattle.runfile.specs.declared.words.Kind.{Kind}
use Rattle.runfile.specs.declared.words.Kind.TheVariants.{Link, Open, Close, Change, Pick, Arrive, Depart}

-- The row of a kind.
abbrev pub row_of : Kind → Row
row_of Link = link_row
row_of Open = open_row
row_of Close = close_row
row_of Change = change_row
row_of Pick = pick_row
row_of Arrive = arrive_row
row_of Depart = depart_row
