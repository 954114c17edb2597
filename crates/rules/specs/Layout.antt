-- "Lines and columns": the columns of each field, and the largest numbers, as one revision of the paper has them.
--   a to b         = columns a to b
--   letter_column   = the column of H and of the file's letter
--   Layout         = a span for each field of header, point and relation lines, and the largest point, record and channel
--   sps93          = the text of 1993
--   at l s         = the columns of a span in a line
-- The paper's names of a relation line's fields: number is the field record, increment the record increment, source, shot and shot_index the
-- source line name, point and index, from and upto the channels F and T, step the channel increment I, receiver the receiver line name.
use Rattle.std.specs.Prelude.{ℕ, List}
use Rattle.rules.specs.Text.{cols}

pub record Span : Type 0 where
  pub first : ℕ
  pub last : ℕ

infix 50 ◌to◌
abbrev pub ◌to◌ : ℕ → ℕ → Span
a to b = record { first = a; last = b }

abbrev pub letter_column : ℕ
letter_column = 1

pub record Layout : Type 0 where
  -- a header line: the two digits of its type, the column after them, all three, its text, the code that starts the text
  pub header_type : Span
  pub header_more : Span
  pub header_number : Span
  pub header_text : Span
  pub header_code : Span
  -- a point line
  pub name : Span
  pub point : Span
  pub index : Span
  pub code : Span
  pub static : Span
  pub depth : Span
  pub datum : Span
  pub uphole : Span
  pub water : Span
  pub easting : Span
  pub northing : Span
  pub elevation : Span
  pub day : Span
  pub time : Span
  -- a relation line
  pub tape : Span
  pub number : Span
  pub increment : Span
  pub instrument : Span
  pub source : Span
  pub shot : Span
  pub shot_index : Span
  pub from : Span
  pub upto : Span
  pub step : Span
  pub receiver : Span
  pub from_receiver : Span
  pub to_receiver : Span
  pub receiver_index : Span
  pub most_point : ℕ
  pub most_record : ℕ
  pub most_channel : ℕ

unfoldable pub sps93 : Layout
sps93 =
    record {
      header_type = 2 to 3;
      header_more = 4 to 4;
      header_number = 2 to 4;
      header_text = 33 to 80;
      header_code = 33 to 34;
      name = 2 to 17;
      point = 18 to 25;
      index = 26 to 26;
      code = 27 to 28;
      static = 29 to 32;
      depth = 33 to 36;
      datum = 37 to 40;
      uphole = 41 to 42;
      water = 43 to 46;
      easting = 47 to 55;
      northing = 56 to 65;
      elevation = 66 to 71;
      day = 72 to 74;
      time = 75 to 80;
      tape = 2 to 7;
      number = 8 to 11;
      increment = 12 to 12;
      instrument = 13 to 13;
      source = 14 to 29;
      shot = 30 to 37;
      shot_index = 38 to 38;
      from = 39 to 42;
      upto = 43 to 46;
      step = 47 to 47;
      receiver = 48 to 63;
      from_receiver = 64 to 71;
      to_receiver = 72 to 79;
      receiver_index = 80 to 80;
      most_point = 99999999;
      most_record = 9999;
      most_channel = 9999;
    }

unfoldable pub at : List ℕ → Span → List ℕ
at l s = cols l s.first s.last
