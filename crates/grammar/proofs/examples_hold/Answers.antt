-- What `search` leaves of examples_hold.
use Rattle.std.proofs.Common.{refl}
use Rattle.grammar.proofs.examples_hold.Goals as goal

pub returns : goal.returns
returns c =
    record {
      line_1 = refl;
      line_2 = refl;
      line_3 = refl;
      line_4 = refl;
      line_5 = refl;
      line_6 = refl;
      line_7 = refl;
      line_8 = refl;
      line_9 = refl;
      line_10 = refl;
      line_11 = refl;
      line_12 = refl;
      line_13 = refl;
      line_14 = refl;
      line_15 = refl;
      line_16 = refl;
      line_17 = refl;
      line_18 = refl;
      line_19 = refl;
      line_20 = refl;
      line_21 = refl;
      line_22 = refl;
      line_23 = refl;
      line_24 = refl;
      line_25 = refl;
      line_26 = refl;
      line_27 = refl;
      line_28 = refl;
      line_29 = refl;
      line_30 = refl;
      line_31 = refl;
      line_32 = refl;
      line_33 = refl;
      line_34 = refl;
      line_35 = refl;
      line_36 = refl;
      line_37 = refl;
    }
