pub mod SeatAnswers
