pub mod CommandWords
pub mod SummaryTexts
pub mod GeneratedCount
pub mod OutsideSlots
pub mod AnswersTaken
pub mod RanLemmas
pub mod CourseRefusals
pub mod CourseFollowed
pub mod PaceCarried
pub mod CourseParts
pub mod UnreadPlain
pub mod HeadlineLemmas
pub mod AnswersWhole
pub mod AnswerGuards
pub mod HeadlineSlotsLemmas
mod TwoStatementRuns
