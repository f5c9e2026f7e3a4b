-- What a frame says.
use Rattle.std.specs.Prelude.{ℕ, List}
use Rattle.html_page.specs.declared.frame.Frame.{Frame}

-- the language of the texts, the titles of the links and of a usage, and the foot
pub record FrameSaid : Type 0 where
  pub language : List ℕ
  pub contents : List ℕ
  pub usage : List ℕ
  pub foot : List ℕ

abbrev pub frame_of : Frame → FrameSaid
frame_of frame = record { language = frame.language.now; contents = frame.contents.now; usage = frame.usage.now; foot = frame.foot.now }
